-- A user name that was made clean is one.
use Rattle.std.proofs.Common.{◌≡◌, ℕ, ◌≤◌, Bool, true, false, ◌&&◌, cond, List, [], ◌∷◌, map, take}
use Rattle.std.proofs.Common.{length, refl, ◌∙◌, ap, arith, length-take}
use Rattle.std.proofs.lemmas.List.{length-map, take_all}
use Rattle.std.specs.List.{list_all}
use Rattle.irc_names.specs.declared.TheConstants.{MAX_USER_NAME}
use Rattle.irc_names.specs.UserTexts.{is_user_byte, clean_user_byte, clean_user, IsUserName}

clean_byte_is : (byte : ℕ) → is_user_byte (clean_user_byte byte) ≡ true
clean_byte_is byte = by_test (is_user_byte byte) refl
  where
    by_test : (b : Bool) → is_user_byte byte ≡ b → is_user_byte (cond b byte 95) ≡ true
    by_test true is = is
    by_test false is = refl

all_clean : (bytes : List ℕ) → list_all is_user_byte (map clean_user_byte bytes) ≡ true
all_clean [] = refl
all_clean (b ∷ bytes) = ap (λ v. v && list_all is_user_byte (map clean_user_byte bytes))
    (clean_byte_is b) ∙ all_clean bytes

pub clean_name : (bytes kept name : List ℕ) (n : ℕ) → kept ≡ take MAX_USER_NAME bytes
    → name ≡ map clean_user_byte (take n kept) → IsUserName name
clean_name bytes kept name n kept_is is = record {
  fits = omega (
    arith,
    ap length is,
    length-map (take n kept) clean_user_byte,
    length-take n kept,
    ap length kept_is,
    length-take MAX_USER_NAME bytes,
  );
  clean = ap (list_all is_user_byte) is ∙ all_clean (take n kept);
}

pub clean_whole : (bytes kept name : List ℕ) (n : ℕ) → kept ≡ take MAX_USER_NAME bytes
    → name ≡ map clean_user_byte (take n kept) → length kept ≤ n → name ≡ clean_user bytes
unfolding clean_user
clean_whole bytes kept name n kept_is is all =
    is ∙ ap (map clean_user_byte) (take_all n kept all ∙ kept_is)
