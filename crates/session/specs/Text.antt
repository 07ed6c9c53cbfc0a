-- The text that the program `pool` prints, in bytes; Specification: Lines, Specification: Program.
use Rattle.std.specs.Prelude.{ℕ, zero, suc, ◌+◌, ◌-◌, ◌*◌, ◌/◌, ◌%◌, Bool, cond, ◌&&◌, nat_lt, nat_le, nat_eq}
use Rattle.std.specs.Prelude.{List, [], ◌∷◌, ◌++◌, length, get_or, drop, codes}
use Rattle.machine.specs.declared.code.Command.{Command}
use Rattle.machine.specs.declared.answer.Answer.{Answer}
use Rattle.machine.specs.Run.{is_opened}
use Rattle.session.specs.declared.answer.SessionAnswer.{SessionAnswer}
use Rattle.session.specs.Words.{words_of}
use Rattle.session.specs.Contents.{Sheet, sheet_of}
use Rattle.session.specs.Session.{State, run_of, session}

-- ---- numbers and lines; Specification: Lines

-- the last decimal digit of n; 48 is the digit 0
abbrev pub last_digit : ℕ → ℕ
last_digit n = 48 + n % 10

-- the decimal digits of n, highest first, if k digits are enough
unfoldable pub digits : ℕ → ℕ → List ℕ
digits zero n = []
digits (suc k) n = cond (nat_lt n 10) ((48 + n) ∷ []) (digits k (n / 10) ++ (last_digit n ∷ []))

-- n in decimal, if it is below 2 ^ 64
abbrev pub decimal : ℕ → List ℕ
decimal n = digits 20 n

-- the number that digits spell, where n is spelt by those before
unfoldable pub value_of : ℕ → List ℕ → ℕ
value_of n [] = n
value_of n (d ∷ l) = value_of (10 * n + (d - 48)) l

-- each number after a space
unfoldable pub spaced_numbers : List ℕ → List ℕ
spaced_numbers [] = []
spaced_numbers (n ∷ l) = codes " " ++ (decimal n ++ spaced_numbers l)

-- a line: a name, its numbers, a line feed
abbrev pub line : List ℕ → List ℕ → List ℕ
line name numbers = name ++ (spaced_numbers numbers ++ codes "\n")

-- `open H W`: the handle and its opened word
unfoldable pub open_line : ℕ → ℕ → List ℕ
open_line handle word = line (codes "open") (handle ∷ word ∷ [])

-- `end N A B C D`: the commands done, and how many words miners 1, 2, 3 and the controller received
unfoldable pub end_line : SessionAnswer → List ℕ
end_line a =
    let r = a.place.received in
    line (codes "end") (a.done ∷ r.one ∷ r.two ∷ r.three ∷ r.controller ∷ [])

-- `refused R at K`: the number of the refusal, and the refused command, counted from 0
unfoldable pub stop_line : ℕ → ℕ → List ℕ
stop_line number command = (codes "refused" ++ spaced_numbers (number ∷ [])) ++ line (codes " at") (command ∷ [])

-- `refused R`: the number with which the session is refused as a whole
unfoldable pub refusal_line : ℕ → List ℕ
refusal_line number = line (codes "refused") (number ∷ [])

-- ---- the text of a session; Specification: Lines

-- a line for each accepted open, in order
unfoldable pub open_lines : List Command → List Answer → List ℕ
open_lines [] l = []
open_lines (c ∷ cs) [] = []
open_lines (c ∷ cs) (a ∷ l) = cond (is_opened c a) (open_line c.a a.opened) [] ++ open_lines cs l

-- the same from accepted commands and the words that they open
unfoldable pub open_lines_by_words : List Command → List ℕ → List ℕ
open_lines_by_words [] w = []
open_lines_by_words (c ∷ cs) w =
    cond (nat_eq c.code 11) (open_line c.a (get_or w 0 0) ++ open_lines_by_words cs (drop 1 w))
    (open_lines_by_words cs w)

-- the last line of a session that is taken
abbrev pub last_line : SessionAnswer → List ℕ
last_line a = cond (nat_eq a.number 0) (end_line a) (stop_line a.number a.done)

-- whether a number is one of 1 to 4, whose line stands alone
abbrev pub is_early : ℕ → Bool
is_early number = nat_lt 0 number && nat_le number 4

-- the text of a session with this sheet, these lists and this answer
unfoldable pub text_of : Sheet → State → SessionAnswer → List ℕ
text_of b s a =
    cond (is_early a.number) (refusal_line a.number) (open_lines b.commands (run_of b s).answers ++ last_line a)

-- ---- the program; Specification: Program

-- what it prints, and the words and lists that it leaves
pub record PoolOutcome : Type 0 where
  pub text : List ℕ
  pub words : List ℕ
  pub state : State

-- an outcome of the program from its parts
abbrev pub pool_outcome : List ℕ → List ℕ → State → PoolOutcome
pool_outcome t w s = record { text = t; words = w; state = s }

-- the text of the session; of a file of over 30,768 bytes `refused 3`, whatever else is wrong with it
unfoldable pub pool : List ℕ → List ℕ → State → PoolOutcome
pool file w s =
    let o = session file w s in
    cond (nat_lt 30768 (length file)) (pool_outcome (refusal_line 3) w s)
    (pool_outcome (text_of (sheet_of (words_of file)) s o.answer) o.words o.state)
