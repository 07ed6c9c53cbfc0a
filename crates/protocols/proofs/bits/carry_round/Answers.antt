-- `protocols::bits::carry_round` meets its contract: a round on whole words is the round position by position.
use Rattle.std.proofs.Common.{◌∙◌, arith}
use Rattle.protocols.specs.Private.WordForm.{word_p, word_s}
use Rattle.protocols.proofs.Laws.WordForm.{word_forms}
use Rattle.protocols.proofs.bits.carry_round.Goals as goal

pub returns : goal.returns
unfolding word_p word_s
returns c =
    let a = c.args in
    let p = a.p in
    let s = a.s in
    let f = word_forms 5 a.round.k a.round.below in
    let x = c.zip.ensures in
    let y = c.zip-2.ensures in
    let x1 = rw (c.clear_each.ensures, c.and_shares-both.ensures, c.spread_each-2.ensures) at x.one in
    let x2 = rw (c.clear_each.ensures, c.and_shares-both.ensures, c.spread_each-2.ensures) at x.two in
    let x3 = rw (c.clear_each.ensures, c.and_shares-both.ensures, c.spread_each-2.ensures) at x.three in
    let y1 = rw (c.and_shares-carry.ensures, c.spread_each.ensures) at y.one in
    let y2 = rw (c.and_shares-carry.ensures, c.spread_each.ensures) at y.two in
    let y3 = rw (c.and_shares-carry.ensures, c.spread_each.ensures) at y.three in
    λ i. record {
      p = record {
        one = (x1 ∙ f.form_p p.one p.three) i;
        two = (x2 ∙ f.form_p p.two p.one) i;
        three = (x3 ∙ f.form_p p.three p.two) i;
      };
      s = record {
        one = (y1 ∙ f.form_s p.one p.three s.one s.three (omega arith)) i;
        two = (y2 ∙ f.form_s p.two p.one s.two s.one (omega arith)) i;
        three = (y3 ∙ f.form_s p.three p.two s.three s.two (omega arith)) i;
      };
      q = a.q;
      t = a.t;
      base = a.base;
    }
