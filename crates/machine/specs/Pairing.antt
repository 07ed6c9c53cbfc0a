-- One-to-one maps of tape contents; Specification: Blindness.
use Rattle.std.specs.Prelude.{◌≡◌}
use Rattle.protocols.specs.Place.{Tapes}

-- `to` is a one-to-one map of the contents that are `Ok` onto themselves, and `Alike` holds of each content and its
-- partner; Specification: Blindness
pub record Pairing (Ok : Tapes → Type 0) (Alike : Tapes → Tapes → Type 0) : Type 0 where
  pub to : Tapes → Tapes
  pub to_ok : (t : Tapes) → Ok t → Ok (to t)
  -- no two contents have the same partner
  pub one_to_one : (t t' : Tapes) → Ok t → Ok t' → to t ≡ to t' → t ≡ t'
  -- every content is a partner
  pub none_left_over : (u : Tapes) → Ok u → (t : Tapes) × Ok t × (to t ≡ u)
  pub alike : (t : Tapes) → Ok t → Alike t (to t)
