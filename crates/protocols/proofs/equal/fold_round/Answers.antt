-- `protocols::equal::fold_round` meets its contract: a round on whole words is the round position by position.
use Rattle.std.proofs.Common.{◌∙◌}
use Rattle.protocols.specs.Private.WordForm.{word_fold}
use Rattle.protocols.proofs.Laws.WordForm.{word_forms}
use Rattle.protocols.proofs.equal.fold_round.Goals as goal

pub returns : goal.returns
unfolding word_fold
returns c =
    let a = c.args in
    let p = a.p in
    let f = word_forms 5 a.round.k a.round.below in
    let x = c.zip.ensures in
    let x1 = rw (c.others_each.ensures, c.and_shares-both.ensures, c.to_heads_each.ensures) at x.one in
    let x2 = rw (c.others_each.ensures, c.and_shares-both.ensures, c.to_heads_each.ensures) at x.two in
    let x3 = rw (c.others_each.ensures, c.and_shares-both.ensures, c.to_heads_each.ensures) at x.three in
    λ i. record {
      p = record {
        one = (x1 ∙ f.form_fold p.one p.three) i;
        two = (x2 ∙ f.form_fold p.two p.one) i;
        three = (x3 ∙ f.form_fold p.three p.two) i;
      };
      q = a.q;
    }
