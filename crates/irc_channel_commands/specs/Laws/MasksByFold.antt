-- What is the same as the mask of a ban is one.
use Rattle.std.proofs.Common.{◌≡◌, ℕ, ◌≤◌, ◌<◌, Bool, true, false, cond, not, ◌&&◌, List, [], ◌∷◌}
use Rattle.std.proofs.Common.{length, nat_eq, nat_le, inl, inr, refl, sym, ◌∙◌, ap, arith}
use Rattle.std.specs.List.{list_all}
use Rattle.std.proofs.lemmas.Bool.{cases_lt}
use Rattle.std.proofs.lemmas.Bool.Decides.{nat_tests}
use Rattle.std.proofs.lemmas.List.{get_or_past}
use Rattle.irc_names.specs.Fold.{fold, fold_table, key, same}
use Rattle.irc_names.specs.FoldLaws.{same-tells, key-length}
use Rattle.irc_names.specs.Limits.{max_ban_mask}
use Rattle.irc_names.specs.Names.{is_ban_mask_byte, starts_without_colon, is_ban_mask}
use Rattle.irc_names.specs.Lemmas.FoldsByRanges.{agree_below, agree_at}

-- whether a byte is this one, as a number
abbrev told : ℕ → ℕ → ℕ
told code byte = cond (nat_eq byte code) 1 0

abbrev told_folded : ℕ → ℕ → ℕ
told_folded code byte = told code (fold byte)

space_agrees : agree_below (told_folded 0x20) (told 0x20) 256 ≡ true
unfolding fold fold_table
space_agrees = refl

colon_agrees : agree_below (told_folded 0x3A) (told 0x3A) 256 ≡ true
unfolding fold fold_table
colon_agrees = refl

as_test : (test : Bool) → nat_eq (cond test 1 0) 1 ≡ test
as_test true = refl
as_test false = refl

past_table : (number : ℕ) → 256 ≤ number → fold number ≡ 0
unfolding fold fold_table
past_table number past = get_or_past fold_table number 0 past

other_past : (number code : ℕ) → code < 256 → 256 ≤ number → nat_eq number code ≡ false
other_past number code small past = grind (arith, nat_tests)

-- a byte that is its own fold, and the fold of no other
alone : (code byte : ℕ) → code < 256 → nat_eq 0 code ≡ false
    → agree_below (told_folded code) (told code) 256 ≡ true
    → nat_eq (fold byte) code ≡ nat_eq byte code
alone code byte small some agrees = elim (cases_lt byte 256) [
  | inl below ↦
      sym (as_test (nat_eq (fold byte) code))
      ∙ ap (λ n. nat_eq n 1) (agree_at (told_folded code) (told code) 256 byte agrees below)
      ∙ as_test (nat_eq byte code)
  | inr past ↦ ap (λ n. nat_eq n code) (past_table byte past) ∙ some
      ∙ sym (other_past byte code small past)
]

space_alone : (byte : ℕ) → nat_eq (fold byte) 0x20 ≡ nat_eq byte 0x20
space_alone byte = alone 0x20 byte (omega arith) refl space_agrees

colon_alone : (byte : ℕ) → nat_eq (fold byte) 0x3A ≡ nat_eq byte 0x3A
colon_alone byte = alone 0x3A byte (omega arith) refl colon_agrees

bytes_folded : (bytes : List ℕ)
    → list_all is_ban_mask_byte (key bytes) ≡ list_all is_ban_mask_byte bytes
bytes_folded [] = refl
bytes_folded (byte ∷ bytes) =
    ap (λ b. not b && list_all is_ban_mask_byte (key bytes)) (space_alone byte)
    ∙ ap (λ b. not (nat_eq byte 0x20) && b) (bytes_folded bytes)

starts_folded : (bytes : List ℕ) → starts_without_colon (key bytes) ≡ starts_without_colon bytes
starts_folded [] = refl
starts_folded (byte ∷ bytes) = ap not (colon_alone byte)

mask_folded : (bytes : List ℕ) → is_ban_mask (key bytes) ≡ is_ban_mask bytes
unfolding is_ban_mask
mask_folded bytes =
    ap (λ b. b && list_all is_ban_mask_byte (key bytes) && nat_le (length (key bytes)) max_ban_mask)
    (starts_folded bytes)
    ∙ ap (λ b. starts_without_colon bytes && b && nat_le (length (key bytes)) max_ban_mask)
    (bytes_folded bytes)
    ∙ ap (λ n. starts_without_colon bytes && list_all is_ban_mask_byte bytes
    && nat_le n max_ban_mask) (key-length bytes)

pub same_is_mask : (mask other : List ℕ) → same mask other ≡ true → is_ban_mask mask ≡ true
    → is_ban_mask other ≡ true
same_is_mask mask other alike is =
    sym (mask_folded other) ∙ ap is_ban_mask (sym ((same-tells mask other).0 alike))
    ∙ mask_folded mask ∙ is
