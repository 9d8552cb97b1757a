-- What the function reads, the grammar reads.
use Rattle.std.proofs.Common.{◌≡◌, ℕ, zero, suc, ◌-◌, Bool, true, false, not, ◌&&◌, Some, None, Ok}
use Rattle.std.proofs.Common.{Err, List, [], ◌∷◌, ◌++◌, if◌then◌else◌, refl, sym, inl, inr, ◌∙◌, ap}
use Rattle.std.proofs.Common.{subst, append-nil, arith}
use Rattle.std.specs.List.{list_all}
use Rattle.std.proofs.lemmas.Bool.Decides.{eqb_tells}
use Rattle.irc_line.specs.declared.reading.LineFault.TheVariants.{HasNul}
use Rattle.irc_line.specs.Limits.{max_parameters}
use Rattle.irc_line.specs.Bytes.{is_space, is_colon, has_nul, begins, colon}
use Rattle.irc_line.specs.Grammar.{IsGap, ReadsParams, no_more, behind_colon, the_rest, one_word}
use Rattle.irc_line.specs.Grammar.{CommandAt, IsReadAs}
use Rattle.irc_line.specs.Reading.{behind_gap, word_of, behind_word, last_param, param_and}
use Rattle.irc_line.specs.Reading.{params_of, message_at, with_prefix, text_read, read_of}
use Rattle.irc_line.specs.Laws.{EveryLineIsRead, IsReadSoAlone}
use Rattle.irc_line.specs.Loops.Reading.{AfterGap, WordAt}
use Rattle.irc_line.proofs.ReadingLaws.{read_as_one}
use Rattle.irc_line.proofs.ReadingSteps.{params_behind_gap, neither, some_word, word_no_colon}
use Rattle.irc_line.proofs.ReadingSteps.{plain_line, prefixed_line}

gap_found : (text : List ℕ) → AfterGap text (behind_gap text)
gap_found [] = record { gap = []; gap_is = refl; text_is = refl; no_space = refl }
gap_found (b ∷ bytes) = by_first b bytes (is_space b) refl (gap_found bytes)
  where
    by_first : (b : ℕ) (bytes : List ℕ) (c : Bool) → is_space b ≡ c → AfterGap bytes
        (behind_gap bytes) → AfterGap (b ∷ bytes) (if c then behind_gap bytes else b ∷ bytes)
    by_first b bytes true is more = record {
      gap = b ∷ more.gap;
      gap_is = ap (λ v. v && list_all is_space more.gap) is ∙ more.gap_is;
      text_is = ap (λ t. b ∷ t) more.text_is;
      no_space = more.no_space;
    }
    by_first b bytes false is more =
        record { gap = []; gap_is = refl; text_is = refl; no_space = is }

word_found : (text : List ℕ) → WordAt text (word_of text) (behind_word text)
word_found [] = record { no_space = refl; whole = refl; text_is = refl }
word_found (b ∷ bytes) = by_first b bytes (is_space b) refl (word_found bytes)
  where
    by_first : (b : ℕ) (bytes : List ℕ) (c : Bool) → is_space b ≡ c
        → WordAt bytes (word_of bytes) (behind_word bytes) → WordAt (b ∷ bytes)
        (if c then [] else b ∷ word_of bytes) (if c then b ∷ bytes else behind_word bytes)
    by_first b bytes true is more = record { no_space = refl; whole = ap not is; text_is = refl }
    by_first b bytes false is more = record {
      no_space =
          ap (λ v. not v && list_all (λ c. not (is_space c)) (word_of bytes)) is ∙ more.no_space;
      whole = more.whole;
      text_is = ap (λ t. b ∷ t) more.text_is;
    }

-- whether a byte is a colon, as the grammar's lemmas ask it
is_a_colon : (b : ℕ) → is_colon b ≡ true → b ≡ colon
is_a_colon b is = elim (eqb_tells b colon) [
  | inl same ↦ same.1
  | inr other ↦ let never : false ≡ true = sym (other.0) ∙ is in cc never
]

is_no_colon : (b : ℕ) → is_colon b ≡ false → b ≡ colon → ⊥
is_no_colon b is same = let never : true ≡ false = ap is_colon (sym same) ∙ is in cc never

last_read : (text : List ℕ) → begins is_space text ≡ false → ReadsParams 1 text (last_param text)
last_read [] no_space = no_more 1 [] refl
last_read (b ∷ bytes) no_space = by_colon b bytes no_space (is_colon b) refl
  where
    by_colon : (b : ℕ) (bytes : List ℕ) → is_space b ≡ false → (c : Bool) → is_colon b ≡ c
        → ReadsParams 1 (b ∷ bytes) ((if c then bytes else b ∷ bytes) ∷ [])
    by_colon b bytes no_space true is =
        behind_colon 1 (b ∷ bytes) [] bytes refl (ap (λ c. c ∷ bytes) (is_a_colon b is))
    by_colon b bytes no_space false is =
        the_rest 1 (b ∷ bytes) [] (b ∷ bytes) refl refl (λ none. cc none)
        (neither b bytes no_space (is_no_colon b is)) refl

one_less : (room : ℕ) → suc room ≡ suc (suc room) - 1
one_less room = omega arith

param_read : (room : ℕ) (text : List ℕ) → begins is_space text ≡ false
    → ((more : List ℕ) → ReadsParams (suc room) more (params_of (suc room) more))
    → ReadsParams (suc (suc room)) text (param_and (params_of (suc room)) text)
param_read room [] no_space others = no_more (suc (suc room)) [] refl
param_read room (b ∷ bytes) no_space others =
    by_colon room b bytes no_space others (is_colon b) refl
  where
    by_colon : (room b : ℕ) (bytes : List ℕ) → is_space b ≡ false
        → ((more : List ℕ) → ReadsParams (suc room) more (params_of (suc room) more))
        → (c : Bool) → is_colon b ≡ c → ReadsParams (suc (suc room)) (b ∷ bytes) (if c
        then bytes ∷ [] else word_of (b ∷ bytes) ∷ params_of (suc room) (behind_word (b ∷ bytes)))
    by_colon room b bytes no_space others true is =
        behind_colon (suc (suc room)) (b ∷ bytes) [] bytes refl
        (ap (λ c. c ∷ bytes) (is_a_colon b is))
    by_colon room b bytes no_space others false is =
        let word = word_of (b ∷ bytes) in
        let more = behind_word (b ∷ bytes) in
        let found = word_found (b ∷ bytes) in
        let some = some_word b bytes word more no_space (found.whole) (found.text_is) in
        one_word (suc (suc room)) (b ∷ bytes) [] word more (params_of (suc room) more)
        (omega arith) refl some (found.no_space)
        (word_no_colon b bytes word more some (found.text_is) (is_no_colon b is)) (found.whole)
        (found.text_is)
        (subst (λ (n : ℕ). ReadsParams n more (params_of (suc room) more)) (one_less room)
        (others more))

params_read : (room : ℕ) (text : List ℕ) → ReadsParams (suc room) text (params_of (suc room) text)
params_read zero text =
    let gap = gap_found text in
    params_behind_gap 1 text (behind_gap text) (last_param (behind_gap text)) gap
    (last_read (behind_gap text) (gap.no_space))
params_read (suc room) text =
    let gap = gap_found text in
    params_behind_gap (suc (suc room)) text (behind_gap text)
    (param_and (params_of (suc room)) (behind_gap text)) gap
    (param_read room (behind_gap text) (gap.no_space) (params_read room))

command_read : (b : ℕ) (bytes : List ℕ) → is_space b ≡ false → CommandAt (b ∷ bytes)
    (word_of (b ∷ bytes)) (params_of max_parameters (behind_word (b ∷ bytes)))
command_read b bytes no_space =
    let word = word_of (b ∷ bytes) in
    let more = behind_word (b ∷ bytes) in
    let found = word_found (b ∷ bytes) in
    record {
      more = more;
      is_some = some_word b bytes word more no_space (found.whole) (found.text_is);
      no_space = found.no_space;
      whole = found.whole;
      text_is = found.text_is;
      params_are = params_read 14 more;
    }

-- behind a prefix
prefix_read : (line start bytes prefix more text : List ℕ) (b : ℕ) → has_nul line ≡ false
    → AfterGap line start → start ≡ b ∷ bytes → b ≡ colon → WordAt bytes prefix more
    → AfterGap more text → IsReadAs line (with_prefix prefix text)
prefix_read line start bytes prefix more [] b no_nul gap start_is colon_is word after = (
  no_nul,
  record {
    gap = gap.gap;
    prefix = prefix;
    after = more;
    gap_is = gap.gap_is;
    prefix_is = word.no_space;
    after_is = subst (λ (t : List ℕ). IsGap t) (sym (after.text_is ∙ append-nil (after.gap)))
        (after.gap_is);
    line_is = gap.text_is ∙ ap (λ t. gap.gap ++ t) (start_is ∙ ap (λ c. c ∷ bytes) colon_is
        ∙ ap (λ t. colon ∷ t) (word.text_is));
  },
)
prefix_read line start bytes prefix more (c ∷ text) b no_nul gap start_is colon_is word after =
    prefixed_line line start bytes prefix more (c ∷ text) (word_of (c ∷ text)) b
    (params_of max_parameters (behind_word (c ∷ text))) (Some prefix) refl no_nul gap
    start_is colon_is word after (λ none. cc none) (command_read c text (after.no_space))

text_is_read : (line text : List ℕ) → has_nul line ≡ false → AfterGap line text
    → IsReadAs line (text_read text)
text_is_read line [] no_nul gap = (
  no_nul,
  subst (λ (t : List ℕ). IsGap t) (sym (gap.text_is ∙ append-nil (gap.gap))) (gap.gap_is),
)
text_is_read line (b ∷ bytes) no_nul gap =
    elim (is_colon b) as (λ c. is_colon b ≡ c → IsReadAs line (if c then with_prefix (word_of bytes)
    (behind_gap (behind_word bytes)) else Ok (message_at None (b ∷ bytes)))) [
      | true ↦ λ is. prefix_read line (b ∷ bytes) bytes (word_of bytes) (behind_word bytes)
          (behind_gap (behind_word bytes)) b no_nul gap refl (is_a_colon b is)
          (word_found bytes) (gap_found (behind_word bytes))
      | false ↦ λ is. plain_line line (b ∷ bytes) bytes (word_of (b ∷ bytes)) b
          (params_of max_parameters (behind_word (b ∷ bytes))) None refl no_nul gap refl
          (is_no_colon b is) (command_read b bytes (gap.no_space))
    ] refl

pub every_line_is_read : EveryLineIsRead
unfolding read_of
every_line_is_read line = by_nul line (has_nul line) refl
  where
    by_nul : (line : List ℕ) (c : Bool) → has_nul line ≡ c
        → IsReadAs line (if c then Err HasNul else text_read (behind_gap line))
    by_nul line true is = is
    by_nul line false is = text_is_read line (behind_gap line) is (gap_found line)

pub is_read_so_alone : IsReadSoAlone
is_read_so_alone line read is = read_as_one line read (read_of line) is (every_line_is_read line)
