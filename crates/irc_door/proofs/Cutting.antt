-- Texts that were cut within a letter.
use Rattle.std.proofs.Common.{◌≡◌, ℕ, Bool, true, false, not, Option, Some, None, List, drop, take}
use Rattle.std.proofs.Common.{Bor, Result, Ok, Err, refl, sym, ◌∙◌, ap}
use Rattle.std.proofs.Common.{if◌then◌else◌}
use Rattle.std.proofs.Math.Seq.{take-length}
use Rattle.std.proofs.lemmas.Str.{utf8_valid_len-IsUtf8}
use Rattle.std.specs.Option.{is_none, is_some}
use Rattle.std.specs.Result.{MatchResult}
use Rattle.std.specs.Str.{IsUtf8}
use Rattle.std.specs.Str.Lossy.{utf8_error_len, utf8_valid_len}
use Rattle.irc_door.specs.Letters.{whole_letters}

abbrev begins : (text : List ℕ) (up : ℕ) → Bool
begins text up = is_none (utf8_error_len (drop up text))

none_is : (fault : Option ℕ) (b : Bool) → is_some fault ≡ not b → is_none fault ≡ b
none_is None true is = refl
none_is None false is = cc is
none_is (Some n) true is = cc is
none_is (Some n) false is = refl

chosen : (text : List ℕ) (b : Bool) → begins text (utf8_valid_len text) ≡ b
    → whole_letters text ≡ (if b then take (utf8_valid_len text) text else text)
unfolding whole_letters
chosen text b is = ap (λ b. if b then take (utf8_valid_len text) text else text) is

-- it ends within a letter
pub is_cut : (text : List ℕ) (up : ℕ) (fault : Option ℕ) → up ≡ utf8_valid_len text
    → fault ≡ utf8_error_len (drop up text) → (b : Bool) → is_some fault ≡ not b → b ≡ true
    → take up text ≡ whole_letters text
is_cut text up fault up_is fault_is b some_is so =
    ap (λ n. take n text) up_is
    ∙ sym (chosen text true (sym (ap is_none fault_is ∙ ap (begins text) up_is)
    ∙ none_is fault b some_is ∙ so))

-- it is no UTF-8
pub is_other : (text : List ℕ) (fault : Option ℕ) {up : ℕ} → up ≡ utf8_valid_len text
    → fault ≡ utf8_error_len (drop up text) → (b : Bool) → is_some fault ≡ not b → b ≡ false
    → text ≡ whole_letters text
is_other text fault up_is fault_is b some_is so =
    sym (chosen text false (sym (ap is_none fault_is ∙ ap (begins text) up_is)
    ∙ none_is fault b some_is ∙ so))

pub is_whole : (text : List ℕ) → IsUtf8 text → text ≡ whole_letters text
is_whole text well =
    all (begins text (utf8_valid_len text))
    ∙ sym (chosen text (begins text (utf8_valid_len text)) refl)
  where
    all : (b : Bool) → text ≡ (if b then take (utf8_valid_len text) text else text)
    all true = sym (take-length text)
        ∙ ap (λ n. take n text) (sym (utf8_valid_len-IsUtf8 text well))
    all false = refl

pub well_formed : {E : Type 0} (F : E → Type 0) (text : List ℕ) (r : Result (Bor (List ℕ)) E)
    (found : Bor (List ℕ)) → r ≡ Ok found
    → MatchResult r (λ s. (s.now ≡ text) × IsUtf8 text) F → IsUtf8 text
well_formed F text (Ok s) found is cases = cases.1
well_formed F text (Err e) found is cases = cc is
