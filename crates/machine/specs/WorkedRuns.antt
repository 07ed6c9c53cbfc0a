-- One worked run of each command; Specification: Accepted commands. tests/worked_runs.py prints this file: its numbers
-- come from a second writing of the machine, which shares no code with the engine. All words that are lent, but for the
-- kinds, are different.
use Rattle.std.specs.Prelude.{◌≡◌, ℕ, List, [], ◌∷◌, ◌++◌, length, drop}
use Rattle.protocols.specs.declared.place.Place.{Place}
use Rattle.protocols.specs.declared.shares.Shares.{Shares}
use Rattle.protocols.specs.Shares.{shares}
use Rattle.protocols.specs.Place.{Tapes, tapes, Lists, lists, silence, place_of}
use Rattle.machine.specs.Table.{command_of}
use Rattle.machine.specs.Lent.{Tables, tables, Lent, lent_lists}
use Rattle.machine.specs.Command.{CommandOutcome, answer, command_outcome, command}

-- ---- what is lent to each run

-- the shares of four values, and their kinds: the third is a bit word; the first is below the second and equal to the
-- fourth
abbrev pub values : Tables
values = tables
    (1050511072 ∷ 1177049488 ∷ 3792911780 ∷ 2071151321 ∷ [])
    (3550017859 ∷ 3416238561 ∷ 3004404950 ∷ 3632115229 ∷ [])
    (450004507 ∷ 3543739565 ∷ 128574026 ∷ 3642234184 ∷ [])

abbrev pub kinds : List ℕ
kinds = 1 ∷ 1 ∷ 2 ∷ 1 ∷ []

-- the two entries that are not filled
abbrev pub unfilled_entries : Tables
unfilled_entries = tables
    (101 ∷ 102 ∷ [])
    (201 ∷ 202 ∷ [])
    (301 ∷ 302 ∷ [])

abbrev pub unfilled_kinds : List ℕ
unfilled_kinds = 401 ∷ 402 ∷ []

-- one input is used
abbrev pub inputs : List ℕ
inputs = 2556197129 ∷ 4231773835 ∷ 724786556 ∷ []

-- 1, 2, 3 and 4 words are drawn
abbrev pub lent_tapes : Tapes
lent_tapes = tapes
    (2095453060 ∷ 1159062092 ∷ 3068550658 ∷ 1161288644 ∷ [])
    (1867626727 ∷ 2421160914 ∷ 3081523188 ∷ 3150062613 ∷ 3976157109 ∷ 1950647909 ∷ 1101079725 ∷ 3188679412 ∷
    3385649106 ∷ 1461414398 ∷ 2822622013 ∷ 3892190625 ∷ 258640728 ∷ 1583729548 ∷ 622019367 ∷ 3560376372 ∷
    3241775295 ∷ 3639190468 ∷ 1321430123 ∷ 1586428777 ∷ 324434252 ∷ [])
    (44216339 ∷ 2771200369 ∷ 2057815724 ∷ 2834450716 ∷ 2802313074 ∷ 3873976760 ∷ 3269132468 ∷ 2917638373 ∷
    1703611890 ∷ 603214960 ∷ 593215048 ∷ 3750142160 ∷ 2623877848 ∷ 3249398101 ∷ 1167338083 ∷ 3635729502 ∷ [])
    (1033038547 ∷ 3825214380 ∷ 2681405640 ∷ 892730507 ∷ 303690780 ∷ 4024594498 ∷ 1294631765 ∷ 1615423899 ∷
    797978777 ∷ 452920875 ∷ 294908848 ∷ 578175824 ∷ 2749212048 ∷ 1018154983 ∷ 777310291 ∷ 1118167327 ∷
    2604582127 ∷ [])

-- the words that were received before the run
abbrev pub words_before : Lists
words_before = lists
    (1412448972 ∷ [])
    (1436907217 ∷ 3628408838 ∷ [])
    (1674281602 ∷ 2309878713 ∷ 1154898613 ∷ 51704690 ∷ [])
    (2143313780 ∷ 2009867087 ∷ 4232481856 ∷ [])

-- the unfilled part of each received list
abbrev pub unfilled_parts : Lists
unfilled_parts = lists
    (501 ∷ 502 ∷ 503 ∷ 504 ∷ 505 ∷ 506 ∷ 507 ∷ 508 ∷
    509 ∷ 510 ∷ 511 ∷ 512 ∷ 513 ∷ 514 ∷ 515 ∷ 516 ∷
    517 ∷ 518 ∷ 519 ∷ 520 ∷ 521 ∷ 522 ∷ 523 ∷ [])
    (601 ∷ 602 ∷ 603 ∷ 604 ∷ 605 ∷ 606 ∷ 607 ∷ 608 ∷
    609 ∷ 610 ∷ 611 ∷ 612 ∷ 613 ∷ 614 ∷ 615 ∷ 616 ∷
    617 ∷ 618 ∷ 619 ∷ 620 ∷ 621 ∷ 622 ∷ 623 ∷ 624 ∷
    625 ∷ 626 ∷ 627 ∷ 628 ∷ 629 ∷ [])
    (701 ∷ 702 ∷ 703 ∷ 704 ∷ 705 ∷ 706 ∷ 707 ∷ 708 ∷
    709 ∷ 710 ∷ 711 ∷ 712 ∷ 713 ∷ 714 ∷ 715 ∷ 716 ∷
    717 ∷ 718 ∷ 719 ∷ 720 ∷ 721 ∷ 722 ∷ 723 ∷ 724 ∷
    725 ∷ 726 ∷ 727 ∷ 728 ∷ 729 ∷ [])
    (801 ∷ 802 ∷ 803 ∷ 804 ∷ [])

-- the ten counts; Specification: Place record
abbrev pub start : Place
start = place_of (4 ∷ 1 ∷ 1 ∷ 2 ∷ 3 ∷ 4 ∷ 1 ∷ 2 ∷ 4 ∷ 3 ∷ [])

-- ---- a run, and what it leaves

-- a list: the words that it held, new words behind them, and the rest of it as it was
abbrev pub with_words : List ℕ → List ℕ → List ℕ → List ℕ
with_words held words beyond = held ++ (words ++ drop (length words) beyond)

abbrev pub tables_with : Tables → Tables
tables_with new =
    tables (with_words values.one new.one unfilled_entries.one) (with_words values.two new.two unfilled_entries.two)
    (with_words values.three new.three unfilled_entries.three)

abbrev pub lists_with : Lists → Lists
lists_with words =
    let before = words_before in
    lists (with_words before.one words.one unfilled_parts.one) (with_words before.two words.two unfilled_parts.two)
    (with_words before.three words.three unfilled_parts.three)
    (with_words before.controller words.controller unfilled_parts.controller)

-- all that is lent, with new shares and kinds, and with words that the parties receive
abbrev pub lent_with : Tables → List ℕ → Lists → Lent
lent_with new new_kinds words =
    lent_lists (tables_with new) (with_words kinds new_kinds unfilled_kinds) inputs lent_tapes (lists_with words)

abbrev pub no_shares : Tables
no_shares = tables [] [] []

-- the run of one command
abbrev pub outcome_at_start : ℕ → ℕ → ℕ → CommandOutcome
outcome_at_start code a b = command 5 (command_of code a b) start (lent_with no_shares [] silence)

-- of a command that makes a value: the ten counts after it, shares and kind, and the words that each party receives
abbrev pub outcome_with_value : List ℕ → Shares → ℕ → Lists → CommandOutcome
outcome_with_value counts s kind words =
    command_outcome (answer 0 (place_of counts) 0)
    (lent_with (tables (s.one ∷ []) (s.two ∷ []) (s.three ∷ [])) (kind ∷ []) words)

-- of an open: the ten counts after it, the opened word, and the words that each party receives
abbrev pub outcome_with_opened_word : List ℕ → ℕ → Lists → CommandOutcome
outcome_with_opened_word counts word words =
    command_outcome (answer 0 (place_of counts) word) (lent_with no_shares [] words)

-- promised by `worked_runs`: from a place record that counts words of each list, each of the twelve commands draws the
-- next words of the tapes, answers exactly these counts and this opened word, writes exactly these shares and this kind
-- into the next entry and exactly these words, in this order, into the unfilled part of each party's list; all else
-- stays as it was. Specification: Accepted commands.
pub record WorkedRuns : Type 0 where
  -- the next input, shared
  pub store : outcome_at_start 1 0 0
      ≡ outcome_with_value (5 ∷ 2 ∷ 3 ∷ 2 ∷ 3 ∷ 4 ∷ 2 ∷ 3 ∷ 5 ∷ 3 ∷ []) (shares 1159062092 3068550658 4161085) 1
      (lists
      (1159062092 ∷ [])
      (3068550658 ∷ [])
      (4161085 ∷ [])
      [])
  -- the sum of the first two values
  pub add : outcome_at_start 2 1 2
      ≡ outcome_with_value (5 ∷ 1 ∷ 1 ∷ 2 ∷ 3 ∷ 4 ∷ 1 ∷ 2 ∷ 4 ∷ 3 ∷ []) (shares 2227560560 2671289124 3993744072) 1
      silence
  -- the first value less the second
  pub subtract : outcome_at_start 3 1 2
      ≡ outcome_with_value (5 ∷ 1 ∷ 1 ∷ 2 ∷ 3 ∷ 4 ∷ 1 ∷ 2 ∷ 4 ∷ 3 ∷ []) (shares 4168428880 133779298 1201232238) 1
      silence
  -- the first value and a constant
  pub add_constant : outcome_at_start 4 1 2779096485
      ≡ outcome_with_value (5 ∷ 1 ∷ 1 ∷ 2 ∷ 3 ∷ 4 ∷ 1 ∷ 2 ∷ 4 ∷ 3 ∷ []) (shares 3829607557 3550017859 450004507) 1
      silence
  -- the second value times a constant
  pub times_constant : outcome_at_start 5 2 3735928559
      ≡ outcome_with_value (5 ∷ 1 ∷ 1 ∷ 2 ∷ 3 ∷ 4 ∷ 1 ∷ 2 ∷ 4 ∷ 3 ∷ []) (shares 3631512944 2234619663 3631356803) 1
      silence
  -- the product of the first two values
  pub multiply : outcome_at_start 6 1 2
      ≡ outcome_with_value (5 ∷ 1 ∷ 1 ∷ 4 ∷ 5 ∷ 6 ∷ 5 ∷ 6 ∷ 8 ∷ 3 ∷ []) (shares 439692657 1518711771 4290607608) 1
      (lists
      (303690780 ∷ 4024594498 ∷ 2214211867 ∷ 471053693 ∷ [])
      (3081523188 ∷ 3150062613 ∷ 3828343480 ∷ 302517603 ∷ [])
      (2834450716 ∷ 2802313074 ∷ 3302945387 ∷ 3068489022 ∷ [])
      [])
  -- the second value, shared anew
  pub reshare : outcome_at_start 7 2 0
      ≡ outcome_with_value (5 ∷ 1 ∷ 1 ∷ 3 ∷ 4 ∷ 5 ∷ 2 ∷ 3 ∷ 5 ∷ 3 ∷ []) (shares 3954881896 3169166089 1012979629) 1
      (lists
      (303690780 ∷ [])
      (3081523188 ∷ [])
      (2834450716 ∷ [])
      [])
  -- the first value as a bit word
  pub bits : outcome_at_start 8 1 0
      ≡ outcome_with_value (5 ∷ 1 ∷ 1 ∷ 17 ∷ 15 ∷ 16 ∷ 23 ∷ 27 ∷ 29 ∷ 3 ∷ []) (shares 4957144 3245756381 3962890811) 2
      (lists
      (303690780 ∷ 4024594498 ∷ 3786974529 ∷ 431327088 ∷ 1294631765 ∷ 1615423899 ∷ 3940203822 ∷ 2611954911 ∷
      797978777 ∷ 452920875 ∷ 1823337886 ∷ 3759883018 ∷ 294908848 ∷ 578175824 ∷ 3188349662 ∷ 3780533762 ∷
      2749212048 ∷ 1018154983 ∷ 3260091550 ∷ 1100806461 ∷ 777310291 ∷ 1118167327 ∷ [])
      (3150062613 ∷ 3976157109 ∷ 1950647909 ∷ 1101079725 ∷ 3858864370 ∷ 1717400185 ∷ 2923648239 ∷ 3188679412 ∷
      3385649106 ∷ 902837200 ∷ 625891470 ∷ 1461414398 ∷ 2822622013 ∷ 2375804599 ∷ 1397003668 ∷ 3892190625 ∷
      258640728 ∷ 2613446822 ∷ 2127060268 ∷ 1583729548 ∷ 622019367 ∷ 3632149690 ∷ 1114952172 ∷ 3560376372 ∷
      3241775295 ∷ [])
      (3408859863 ∷ 1532172353 ∷ 2834450716 ∷ 2802313074 ∷ 2405113176 ∷ 1159016070 ∷ 2197476831 ∷ 3873976760 ∷
      3269132468 ∷ 536510402 ∷ 2314015377 ∷ 2917638373 ∷ 1703611890 ∷ 3787913753 ∷ 1146345566 ∷ 603214960 ∷
      593215048 ∷ 634147704 ∷ 1751317998 ∷ 3750142160 ∷ 2623877848 ∷ 439302180 ∷ 4095006481 ∷ 3249398101 ∷
      1167338083 ∷ [])
      [])
  -- the highest bit of the third, which is 1
  pub bit : outcome_at_start 9 3 31
      ≡ outcome_with_value (5 ∷ 1 ∷ 1 ∷ 5 ∷ 3 ∷ 4 ∷ 1 ∷ 5 ∷ 7 ∷ 3 ∷ []) (shares 0 1144904684 3150062612) 1
      (lists
      []
      (3150062613 ∷ 1 ∷ 1 ∷ [])
      (1144904684 ∷ 1 ∷ 0 ∷ [])
      [])
  -- 1, since the first and the fourth are equal
  pub equal : outcome_at_start 10 1 4
      ≡ outcome_with_value (5 ∷ 1 ∷ 1 ∷ 12 ∷ 9 ∷ 10 ∷ 12 ∷ 17 ∷ 19 ∷ 3 ∷ []) (shares 0 1472345284 2822622013) 1
      (lists
      (303690780 ∷ 137111066 ∷ 4024594498 ∷ 1088267579 ∷ 1294631765 ∷ 4212004822 ∷ 1615423899 ∷ 1486651128 ∷
      797978777 ∷ 3672895108 ∷ 452920875 ∷ [])
      (3081523188 ∷ 3150062613 ∷ 1445212150 ∷ 3976157109 ∷ 87624977 ∷ 1950647909 ∷ 1012336688 ∷ 1101079725 ∷
      482297094 ∷ 3188679412 ∷ 2367756139 ∷ 3385649106 ∷ 2822622013 ∷ 1 ∷ 1 ∷ [])
      (192803859 ∷ 2834450716 ∷ 2717382163 ∷ 2802313074 ∷ 3122354133 ∷ 3873976760 ∷ 950460441 ∷ 3269132468 ∷
      3151807489 ∷ 2917638373 ∷ 2822047248 ∷ 1703611890 ∷ 1472345283 ∷ 1 ∷ 0 ∷ [])
      [])
  -- the second value, opened
  pub opening : outcome_at_start 11 2 0
      ≡ outcome_with_opened_word (4 ∷ 1 ∷ 1 ∷ 3 ∷ 4 ∷ 5 ∷ 2 ∷ 3 ∷ 5 ∷ 6 ∷ []) 3842060318
      (lists
      (303690780 ∷ [])
      (3081523188 ∷ [])
      (2834450716 ∷ [])
      (3954881896 ∷ 3169166089 ∷ 1012979629 ∷ []))
  -- 1, since the first value is below the second
  pub below : outcome_at_start 12 1 2
      ≡ outcome_with_value (5 ∷ 1 ∷ 1 ∷ 20 ∷ 15 ∷ 16 ∷ 23 ∷ 30 ∷ 32 ∷ 3 ∷ []) (shares 0 2973537174 1321430122) 1
      (lists
      (303690780 ∷ 4024594498 ∷ 3786974529 ∷ 1488361264 ∷ 1294631765 ∷ 1615423899 ∷ 3939671340 ∷ 2057589823 ∷
      797978777 ∷ 452920875 ∷ 2694909276 ∷ 3306214374 ∷ 294908848 ∷ 578175824 ∷ 2462468668 ∷ 1681731246 ∷
      2749212048 ∷ 1018154983 ∷ 849170300 ∷ 1459083921 ∷ 777310291 ∷ 1118167327 ∷ [])
      (3150062613 ∷ 3976157109 ∷ 1950647909 ∷ 1101079725 ∷ 3433042613 ∷ 1717400185 ∷ 2923648239 ∷ 3188679412 ∷
      3385649106 ∷ 902837200 ∷ 659454094 ∷ 1461414398 ∷ 2822622013 ∷ 2375804599 ∷ 1565275476 ∷ 3892190625 ∷
      258640728 ∷ 3679848614 ∷ 1348533596 ∷ 1583729548 ∷ 622019367 ∷ 653143226 ∷ 1239185820 ∷ 3560376372 ∷
      3241775295 ∷ 1321430123 ∷ 1 ∷ 0 ∷ [])
      (2231810375 ∷ 1532172353 ∷ 2834450716 ∷ 2802313074 ∷ 3283841911 ∷ 2685542112 ∷ 1727907323 ∷ 3873976760 ∷
      3269132468 ∷ 3639963436 ∷ 3991020189 ∷ 2917638373 ∷ 1703611890 ∷ 718138107 ∷ 676653150 ∷ 603214960 ∷
      593215048 ∷ 1318536090 ∷ 2225462542 ∷ 3750142160 ∷ 2623877848 ∷ 343172038 ∷ 2832444657 ∷ 3249398101 ∷
      1167338083 ∷ 2973537174 ∷ 1 ∷ 1 ∷ [])
      [])
