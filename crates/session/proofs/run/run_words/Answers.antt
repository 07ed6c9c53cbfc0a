-- `session::run::run_words` meets its contract.
use Rattle.protocols.specs.Place.{counts}
use Rattle.protocols.specs.Counts.{received_counts}
use Rattle.session.proofs.Laws.Run.{run_of-bodies}
use Rattle.session.proofs.run.run_words.Goals as goal

pub returns-clause-outcome : goal.returns-clause-outcome
returns-clause-outcome c =
    let a = c.args in
    let e = c.default.ensures in
    run_of-bodies a.words.now _ c.body-5.ensures c.body-6.ensures c.body.ensures c.body-2.ensures c.body-3.ensures c.body-4.ensures
    (λ i. record {
      handles = e.0 i;
      inputs = e.1.0 i;
      drawn = counts (e.1.1.0.0 i) (e.1.1.0.1.0 i) (e.1.1.0.1.1.0 i) (e.1.1.0.1.1.1 i);
      received = received_counts (e.1.1.1.0 i) (e.1.1.1.1.0 i) (e.1.1.1.1.1.0 i) (e.1.1.1.1.1.1 i);
    })
    c.run-run.ensures.done
