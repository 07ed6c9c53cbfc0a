-- How many words each list receives from four connected programs: as many as the timetable says.
use Rattle.std.proofs.Common.{◌≡◌, ℕ, zero, suc, ◌+◌, List, [], ◌∷◌, ◌++◌, length, refl, sym, ap, ap₂, ◌∙◌}
use Rattle.std.proofs.lemmas.List.{append_assoc, length-append}
use Rattle.protocols.specs.declared.place.Party.{Party}
use Rattle.protocols.specs.declared.place.Party.TheVariants.{Provider, One, Two, Three}
use Rattle.protocols.specs.declared.place.Received.{Received}
use Rattle.protocols.specs.Shares.{one, two, three}
use Rattle.protocols.specs.Place.{Lists, silence, ◌followed_by◌, Receiver, miner, controller, list}
use Rattle.protocols.specs.Counts.{count_for}
use Rattle.protocols.specs.Parties.{Process, for_party, in_turn, SentCounts, sent_lengths, connect}
use Rattle.protocols.proofs.Laws.Counts.{due-list_lengths}

-- ---- a round

pub list-round : (q : Receiver) (o : Party → Lists) (l : Lists)
    → let w = λ (j : Party). list q (o j) in
    list q (in_turn o followed_by l) ≡ w Provider ++ (w One ++ (w Two ++ (w Three ++ list q l)))
list-round (miner one) o l = simp append_assoc
list-round (miner two) o l = simp append_assoc
list-round (miner three) o l = simp append_assoc
list-round controller o l = simp append_assoc

abbrev pub sender : Party → SentCounts → Received
sender Provider t = t.provider
sender One t = t.one
sender Two t = t.two
sender Three t = t.three

pub length-sent : (q : Receiver) (j : Party) (o : Party → Lists) → count_for q (sender j (sent_lengths o)) ≡ length (list q (o j))
length-sent q Provider o = due-list_lengths q (o Provider)
length-sent q One o = due-list_lengths q (o One)
length-sent q Two o = due-list_lengths q (o Two)
length-sent q Three o = due-list_lengths q (o Three)

-- ---- all rounds

-- how many words a list receives, by the timetable
unfoldable pub total : Receiver → List SentCounts → ℕ
total q [] = 0
total q (t ∷ times) =
    let n = λ (j : Party). count_for q (sender j t) in
    n Provider + (n One + (n Two + (n Three + total q times)))

nothing_received : (q : Receiver) → length (list q silence) ≡ 0
nothing_received (miner one) = refl
nothing_received (miner two) = refl
nothing_received (miner three) = refl
nothing_received controller = refl

length-round : (q : Receiver) (o : Party → Lists) (l : Lists) (k : ℕ) → length (list q l) ≡ k
    → let n = λ (j : Party). count_for q (sender j (sent_lengths o)) in
    length (list q (in_turn o followed_by l)) ≡ n Provider + (n One + (n Two + (n Three + k)))
length-round q o l k e =
    let first = λ (j : Party) (w : List ℕ) (m : ℕ) (f : length w ≡ m).
    length-append (list q (o j)) w ∙ ap₂ ◌+◌ (sym (length-sent q j o)) f in
    ap length (list-round q o l)
    ∙ first Provider _ _ (first One _ _ (first Two _ _ (first Three _ _ e)))

pub length-received : (B : Type 0) (r : ℕ) (p : Party → Process r B) (q : Receiver)
    → let c = connect r p in length (list q c.received) ≡ total q c.sent
unfolding connect total
length-received B zero p q = nothing_received q
length-received B (suc r) p q =
    let o = λ (j : Party). (p j).sends in
    let p' = λ (j : Party). (p j).next (λ k. for_party j (o k)) in
    length-round q o (connect r p').received _ (length-received B r p' q)
