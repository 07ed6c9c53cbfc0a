-- `protocols::bits::rounds` meets its contract.
use Rattle.std.proofs.Common.{◌∙◌, [], arith}
use Rattle.protocols.specs.Place.{lists}
use Rattle.protocols.specs.Lent.{tapes_of}
use Rattle.protocols.proofs.Laws.Drawn.{no_round-done, one_more-done, all-done}
use Rattle.protocols.proofs.bits.rounds.Goals as goal

pub returns : goal.returns
returns c =
    let a = c.args in
    let u = a.u in
    let w = tapes_of a.words in
    let l = lists a.one.now a.two.now a.three.now [] in
    let long = c.requires.block in
    let e = c.deal-held.ensures in
    let e₀ = c.round-held.ensures in
    let e₁ = c.round-held-2.ensures in
    let e₂ = c.round-held-3.ensures in
    let e₃ = c.round-held-4.ensures in
    let e₄ = c.round-held-5.ensures in
    let d₀ = no_round-done u w long l _ _ c.at-q.ensures c.at-t.ensures _ e.held _ e.sent in
    let d₁ = one_more-done u w long l 0 (omega arith) d₀ _ _ c.at-q-2.ensures c.at-t-2.ensures _ e₀.held _ e₀.sent in
    let d₂ = one_more-done u w long l 1 (omega arith) d₁ _ _ c.at-q-3.ensures c.at-t-3.ensures _ e₁.held _ e₁.sent in
    let d₃ = one_more-done u w long l 2 (omega arith) d₂ _ _ c.at-q-4.ensures c.at-t-4.ensures _ e₂.held _ e₂.sent in
    let d₄ = one_more-done u w long l 3 (omega arith) d₃ _ _ c.at-q-5.ensures c.at-t-5.ensures _ e₃.held _ e₃.sent in
    let d₅ = one_more-done u w long l 4 (omega arith) d₄ _ _ c.at-q-6.ensures c.at-t-6.ensures _ e₄.held _ e₄.sent in
    let done = all-done u w long l d₅ in
    record { shares = c.sum_bits.ensures ∙ done.0; sent = done.1 }
