-- `session::sheet::session` meets its contract.
use Rattle.std.proofs.Common.{ℕ, ◌/◌, List, length, take, refl, sym, ap, subst, ◌∙◌, arith}
use Rattle.std.proofs.Math.Seq.{length-take-le}
use Rattle.session.specs.Private.Bodies.{Bodies}
use Rattle.session.proofs.Laws.Words.{take-words_after}
use Rattle.session.proofs.Laws.Contents.{passes_tests, bodies}
use Rattle.session.proofs.Laws.Session.{session-of_refusal, words_lent, session-done}
use Rattle.session.proofs.sheet.session.Goals as goal

pub returns-in-Err-clause-outcome : goal.returns-in-Err-clause-outcome
returns-in-Err-clause-outcome c = session-of_refusal c.args.file.now c.args.words.now _ c.in-Err.refusal c.in-Err.ensures c.of_refusal.result c.of_refusal.ensures

pub slice_bounds-run_words-end-2 : goal.slice_bounds-run_words-end-2
slice_bounds-run_words-end-2 c =
    let fit = words_lent c.args.file.now c.args.words.now _ (sym c.in_default.ensures) in
    sym (length-take-le (length c.args.file.now / 4) c.decode.new.words (omega (arith, c.decode.auto.words, fit)))

pub run_words-requires : goal.run_words-requires
run_words-requires c =
    let a = c.args in
    let f = a.file.now in
    subst Bodies (sym (ap (λ (l : List ℕ). take (length f / 4) l) c.decode.ensures ∙ take-words_after f a.words.now))
    (bodies f (passes_tests f _ (sym c.in_default.ensures)))

pub returns-clause-outcome : goal.returns-clause-outcome
returns-clause-outcome c =
    let a = c.args in
    session-done a.file.now a.words.now _ (sym c.in_default.ensures) _ c.decode.new.words c.decode.ensures refl c.run_words.result _
    c.run_words.ensures.outcome
