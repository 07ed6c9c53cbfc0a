-- `protocols::equal::folds` meets its contract.
use Rattle.std.proofs.Common.{◌≡◌, [], ap, arith}
use Rattle.protocols.specs.declared.equal.FoldState.{FoldState}
use Rattle.protocols.specs.Word.{modulus}
use Rattle.protocols.specs.Shares.{Operands}
use Rattle.protocols.specs.Place.{lists}
use Rattle.protocols.specs.Local.{difference}
use Rattle.protocols.specs.Lent.{tapes_of}
use Rattle.protocols.proofs.Laws.Drawn.{FoldsDone, no_fold-done, fold-done, all_folds-done}
use Rattle.protocols.proofs.equal.folds.Goals as goal

pub returns : goal.returns
returns c =
    let a = c.args in
    let w = tapes_of a.words in
    let l = lists a.one.now a.two.now a.three.now [] in
    let l' = lists c.round-held-5.new.one c.round-held-5.new.two c.round-held-5.new.three [] in
    let long = c.requires.block in
    let e₀ = c.round-held.ensures in
    let e₁ = c.round-held-2.ensures in
    let e₂ = c.round-held-3.ensures in
    let e₃ = c.round-held-4.ensures in
    let e₄ = c.round-held-5.ensures in
    let fold_round : (x : Operands) → a.d ≡ difference (modulus 5) x → FoldsDone x w l 5 c.round-held-5.result l' = λ x is.
    let d₀ = no_fold-done x w long l _ c.at.ensures _ (c.compare-held.ensures.held x is) _ (c.compare-held.ensures.sent x is) in
    let d₁ = fold-done x w long l 0 (omega arith) d₀ _ c.at-2.ensures _ e₀.held _ e₀.sent in
    let d₂ = fold-done x w long l 1 (omega arith) d₁ _ c.at-3.ensures _ e₁.held _ e₁.sent in
    let d₃ = fold-done x w long l 2 (omega arith) d₂ _ c.at-4.ensures _ e₂.held _ e₂.sent in
    let d₄ = fold-done x w long l 3 (omega arith) d₃ _ c.at-5.ensures _ e₃.held _ e₃.sent in
    fold-done x w long l 4 (omega arith) d₄ _ c.at-6.ensures _ e₄.held _ e₄.sent in
    record {
      shares = λ x is. ap (λ (h : FoldState). h.p) (all_folds-done x w long l (fold_round x is)).0;
      sent = λ x is. (all_folds-done x w long l (fold_round x is)).1;
    }
