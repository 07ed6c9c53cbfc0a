-- What one miner has of shares and received lists, in two runs.
use Rattle.std.proofs.Common.{◌≡◌, ℕ, zero, suc, List, [], ◌∷◌, refl, ap, ap₂}
use Rattle.protocols.specs.declared.shares.Shares.{Shares}
use Rattle.protocols.specs.Shares.{Miner, one, two, three, prev, at, each, shares, SharesAreWords}
use Rattle.protocols.specs.Place.{Lists, miner, list, to_next, to_two_three, ◌followed_by◌}

-- ---- shares

abbrev pub SameAt : Miner → Shares → Shares → Type 0
SameAt i s s' = at i s ≡ at i s'

-- new shares from its own shares
pub own_same : (g : Miner → ℕ → ℕ → ℕ) (i : Miner) (u v u' v' : Shares) → SameAt i u u' → SameAt i v v'
    → SameAt i (each (λ j. g j (at j u) (at j v))) (each (λ j. g j (at j u') (at j v')))
own_same g one u v u' v' e d = ap₂ (g one) e d
own_same g two u v u' v' e d = ap₂ (g two) e d
own_same g three u v u' v' e d = ap₂ (g three) e d

-- new shares from its own and the previous miner's shares
pub near_same : (g : ℕ → ℕ → ℕ → ℕ → ℕ) (i : Miner) (u v u' v' : Shares) → SameAt i u u' → SameAt (prev i) u u' → SameAt i v v' → SameAt (prev i) v v'
    → SameAt i (each (λ j. g (at j u) (at (prev j) u) (at j v) (at (prev j) v))) (each (λ j. g (at j u') (at (prev j) u') (at j v') (at (prev j) v')))
near_same g one u v u' v' a b c d = cc
near_same g two u v u' v' a b c d = cc
near_same g three u v u' v' a b c d = cc

-- ---- received lists: the word from the previous miner, and what follows it

pub next_same : (i : Miner) (s s' : Shares) → SameAt (prev i) s s' → list (miner i) (to_next s) ≡ list (miner i) (to_next s')
next_same one s s' e = ap (λ (x : ℕ). x ∷ []) e
next_same two s s' e = ap (λ (x : ℕ). x ∷ []) e
next_same three s s' e = ap (λ (x : ℕ). x ∷ []) e

pub next_followed : (i : Miner) (s s' : Shares) (l l' : Lists) → SameAt (prev i) s s' → list (miner i) l ≡ list (miner i) l'
    → list (miner i) (to_next s followed_by l) ≡ list (miner i) (to_next s' followed_by l')
next_followed one s s' l l' e d = ap₂ (λ (x : ℕ) (r : List ℕ). x ∷ r) e d
next_followed two s s' l l' e d = ap₂ (λ (x : ℕ) (r : List ℕ). x ∷ r) e d
next_followed three s s' l l' e d = ap₂ (λ (x : ℕ) (r : List ℕ). x ∷ r) e d

-- the word that miner 2 or 3 receives
pub two-three-same : (i : Miner) (a b a' b' : ℕ) → SameAt i (shares 0 a b) (shares 0 a' b')
    → list (miner i) (to_two_three a b) ≡ list (miner i) (to_two_three a' b')
two-three-same one a b a' b' e = refl
two-three-same two a b a' b' e = ap (λ (x : ℕ). x ∷ []) e
two-three-same three a b a' b' e = ap (λ (x : ℕ). x ∷ []) e

-- ---- one of two values, chosen by an index: the first by 0, the second by any other

abbrev pub pick : ℕ → Shares → Shares → Shares
pick zero a b = a
pick (suc k) a b = b

pub pick_words : {m : ℕ} (k : ℕ) (a b : Shares) → SharesAreWords m a → SharesAreWords m b → SharesAreWords m (pick k a b)
pick_words zero a b ha hb = ha
pick_words (suc k) a b ha hb = hb
