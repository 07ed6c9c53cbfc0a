-- Runs of a list of commands, past refusals or up to the first one; Specification: Runs.
use Rattle.std.specs.Prelude.{ℕ, suc, Bool, cond, ◌&&◌, List, [], ◌∷◌, ◌++◌, map, nat_eq}
use Rattle.protocols.specs.declared.place.Place.{Place}
use Rattle.protocols.specs.Shares.{shares, sum_of}
use Rattle.protocols.specs.Place.{counts}
use Rattle.protocols.specs.Counts.{received_counts}
use Rattle.machine.specs.declared.code.Command.{Command}
use Rattle.machine.specs.declared.answer.Answer.{Answer}
use Rattle.machine.specs.declared.answer.Run.{Run}
use Rattle.machine.specs.declared.lent.Sizes.{Sizes}
use Rattle.machine.specs.Table as table
use Rattle.machine.specs.Lent.{Lent}
use Rattle.machine.specs.Verdict.{verdict_number}
use Rattle.machine.specs.Command.{CommandOutcome, answer, command}
use Rattle.machine.specs.Registers.{Registers, judge, step}

-- a run's answers, in order, and the place record and the lent lists after it
pub record RunResult : Type 0 where
  pub answers : List Answer
  pub place : Place
  pub lent : Lent

abbrev pub run_result : List Answer → Place → Lent → RunResult
run_result a p l = record { answers = a; place = p; lent = l }

-- a command's outcome, followed by the run of the other commands
abbrev pub after_command : CommandOutcome → RunResult → RunResult
after_command o r = run_result (o.answer ∷ r.answers) r.place r.lent

-- a run, which goes on past refused commands; Specification: Runs
unfoldable pub run : ℕ → List Command → Place → Lent → RunResult
run n [] p l = run_result [] p l
run n (c ∷ cs) p l = let o = command n c p l in after_command o (run n cs o.answer.place o.lent)

-- a run up to the first refusal, whose answer is the last; Specification: Runs
unfoldable pub run_to_refusal : ℕ → List Command → Place → Lent → RunResult
run_to_refusal n [] p l = run_result [] p l
run_to_refusal n (c ∷ cs) p l =
    let o = command n c p l in
    cond (nat_eq o.answer.number 0) (after_command o (run_to_refusal n cs o.answer.place o.lent))
    (after_command o (run_result [] o.answer.place o.lent))

-- ---- what the code's `run` answers

-- the commands in a list of words, three words each; one or two words left over at the end are no command
unfoldable pub commands_of : List ℕ → List Command
commands_of [] = []
commands_of (x ∷ []) = []
commands_of (x ∷ y ∷ []) = []
commands_of (code ∷ a ∷ b ∷ rest) = table.command_of code a b ∷ commands_of rest

-- how many commands are accepted before the first refusal
unfoldable pub accepted_count : List Answer → ℕ
accepted_count [] = 0
accepted_count (a ∷ l) = cond (nat_eq a.number 0) (suc (accepted_count l)) 0

-- the number of the first refusal, or 0 if there is none
unfoldable pub refused_number : List Answer → ℕ
refused_number [] = 0
refused_number (a ∷ l) = cond (nat_eq a.number 0) (refused_number l) a.number

-- the last answer, or a if there is none
unfoldable pub last_answer : Answer → List Answer → Answer
last_answer a [] = a
last_answer a (b ∷ l) = last_answer b l

-- what the code's `run` answers, and the lent lists after it
pub record RunOutcome : Type 0 where
  pub run : Run
  pub lent : Lent

abbrev pub run_outcome : Run → Lent → RunOutcome
run_outcome r l = record { run = r; lent = l }

-- of a run from the place p: how many commands are done, the last answer, and the lent lists
abbrev pub run_outcome_of : Place → RunResult → RunOutcome
run_outcome_of p r =
    run_outcome (record { done = accepted_count r.answers; last = last_answer (answer 0 p 0) r.answers }) r.lent

-- ---- parts of a run's answers

-- the numbers answered, in order
abbrev pub answer_numbers : RunResult → List ℕ
answer_numbers r = map (λ a. a.number) r.answers

-- the place record in which all ten counts are 0; Specification: Place record
abbrev pub empty_place : Place
empty_place = record { handles = 0; inputs = 0; drawn = counts 0 0 0 0; received = received_counts 0 0 0 0 }

-- an answer without its opened word: number and place record; Specification: Records
pub record Reply : Type 0 where
  pub number : ℕ
  pub place : Place

abbrev pub reply : Answer → Reply
reply a = record { number = a.number; place = a.place }

-- the command is an accepted open
abbrev pub is_opened : Command → Answer → Bool
is_opened c a = nat_eq c.code 11 && nat_eq a.number 0

-- the opened words of the accepted opens, in order; Specification: Answers
unfoldable pub opened_words : List Command → List Answer → List ℕ
opened_words [] l = []
opened_words (c ∷ cs) [] = []
opened_words (c ∷ cs) (a ∷ l) = cond (is_opened c a) (a.opened ∷ []) [] ++ opened_words cs l

-- the sum of each three shares of a list, as the controller receives them; Specification: Answers
unfoldable pub sums_in_threes : ℕ → List ℕ → List ℕ
sums_in_threes m [] = []
sums_in_threes m (a ∷ []) = []
sums_in_threes m (a ∷ b ∷ []) = []
sums_in_threes m (a ∷ b ∷ c ∷ l) = sum_of m (shares a b c) ∷ sums_in_threes m l

-- ---- the register machine on a list of commands; Specification: Registers

-- its registers after the list
unfoldable pub registers_after : ℕ → List Command → Sizes → List ℕ → Registers → Registers
registers_after n [] z inputs m = m
registers_after n (c ∷ cs) z inputs m = registers_after n cs z inputs (step n c z inputs m)

-- its number and its place record after each command
unfoldable pub replies : ℕ → List Command → Sizes → List ℕ → Registers → List Reply
replies n [] z inputs m = []
replies n (c ∷ cs) z inputs m =
    record { number = verdict_number (judge n c z m); place = (step n c z inputs m).place }
    ∷ replies n cs z inputs (step n c z inputs m)
