-- A sign and a letter of a MODE, each read in its turn.
use Rattle.std.proofs.Common.{◌≡◌, ℕ, Bool, true, false, cond, List, ◌∷◌, nat_eq, ap}
use Rattle.irc_modes.specs.ModeWords.{next_word, words_after, is_sign, reading, letters_read}
use Rattle.irc_modes.specs.Letters.{plus_byte}

pub sign_read : (plus : Bool) (byte : ℕ) (letters : List ℕ)
    (words : List (List ℕ)) → is_sign byte ≡ true
    → letters_read plus (byte ∷ letters) words ≡ letters_read (nat_eq byte plus_byte) letters words
sign_read plus byte letters words is =
    ap (λ b. cond b (letters_read (nat_eq byte plus_byte) letters words) (reading plus byte
    (next_word words) ∷ letters_read plus letters (words_after plus byte words))) is

pub letter_read : (plus : Bool) (byte : ℕ) (letters : List ℕ) (words : List (List ℕ))
    → is_sign byte ≡ false → letters_read plus (byte ∷ letters) words ≡ reading plus byte
    (next_word words) ∷ letters_read plus letters (words_after plus byte words)
letter_read plus byte letters words is =
    ap (λ b. cond b (letters_read (nat_eq byte plus_byte) letters words) (reading plus byte
    (next_word words) ∷ letters_read plus letters (words_after plus byte words))) is
