-- The reading of the words of a MODE, one letter at a time.
use Rattle.std.proofs.Common.{◌≡◌, ℕ, ◌+◌, ◌<◌, ◌≤◌, Bool, true, false, cond, Some, None, List, []}
use Rattle.std.proofs.Common.{◌∷◌, ◌++◌, length, get_or, drop, map, nat_eq, refl, sym, ap, ◌∙◌}
use Rattle.std.proofs.Common.{append_assoc}
use Rattle.std.proofs.lemmas.List.{drop_more, drop_all, drop-drop, drop-map, append-nil, map-append}
use Rattle.irc_modes.specs.declared.TheConstants.{MAX_MODE_PARAMETERS}
use Rattle.irc_modes.specs.declared.mode_words.Limits.{Limits}
use Rattle.irc_modes.specs.ModeWords.{Asked, ReadLetter, next_word, letter_asks, mode_of}
use Rattle.irc_modes.specs.ModeWords.{words_after, is_sign, reading, letters_read, counted}
use Rattle.irc_modes.specs.declared.mode_words.ModeItem.{ModeItem}
use Rattle.irc_modes.specs.ModeViews.{asked, all_asked}
use Rattle.irc_modes.specs.Letters.{plus_byte}
use Rattle.irc_modes.specs.Loops.ModeLimits.{Remembers, Judges}
use Rattle.irc_modes.specs.Lemmas.LettersInTurn.{sign_read, letter_read}

-- ---- which parameter is the next

pub next_at : {X : Type 0} (f : X → List ℕ) (xs : List X) (i : ℕ) (d : X) → i < length xs
    → next_word (drop i (map f xs)) ≡ Some (f (get_or xs i d))
next_at f xs i d within =
    ap next_word (drop-map f i xs) ∙ ap (λ ys. next_word (map f ys)) (drop_more xs i d within)

pub next_past : {X : Type 0} (f : X → List ℕ) (xs : List X) (i : ℕ) → length xs ≤ i
    → next_word (drop i (map f xs)) ≡ None
next_past f xs i past =
    ap next_word (drop-map f i xs) ∙ ap (λ ys. next_word (map f ys)) (drop_all i xs past)

pub after_none : (plus : Bool) (byte : ℕ) (words : List (List ℕ)) (used : ℕ) → letter_asks plus
    (mode_of byte) ≡ false → words_after plus byte (drop used words) ≡ drop used words
after_none plus byte words used asks =
    ap (λ b. cond b (drop 1 (drop used words)) (drop used words)) asks

pub after_one : (plus : Bool) (byte : ℕ) (words : List (List ℕ)) (used : ℕ) → letter_asks plus
    (mode_of byte) ≡ true → words_after plus byte (drop used words) ≡ drop (used + 1) words
after_one plus byte words used asks =
    ap (λ b. cond b (drop 1 (drop used words)) (drop used words)) asks ∙ drop-drop 1 used words

nothing_left : (words : List (List ℕ)) → words ≡ [] → drop 1 words ≡ words
nothing_left words none = ap (drop 1) none ∙ sym none

pub after_past : {X : Type 0} (plus : Bool) (byte : ℕ) (f : X → List ℕ) (xs : List X) (used : ℕ)
    → letter_asks plus (mode_of byte) ≡ true → length xs ≤ used
    → words_after plus byte (drop used (map f xs)) ≡ drop used (map f xs)
after_past plus byte f xs used asks past =
    let words = drop used (map f xs) in
    let none : drop used (map f xs) ≡ [] =
    drop-map f used xs ∙ ap (map f) (drop_all used xs past) in
    ap (λ b. cond b (drop 1 words) words) asks ∙ nothing_left words none

pub ruleset word_places = (next_at, next_past, after_none, after_one, after_past)

-- ---- the letters in turn

-- What was read so far: with what the letters that are left give, it is the whole.
pub record Standing (plus : Bool) (letters : List ℕ) (words : List (List ℕ)) (limits : Limits)
    (items whole : List Asked) : Type 0 where
  pub earlier : List ReadLetter
  pub remembers : Remembers limits earlier
  pub completes : items ++ counted earlier (letters_read plus letters words) ≡ whole

pub begins : (letters : List ℕ) (words : List (List ℕ)) (limits : Limits) (items : List Asked)
    → limits.room ≡ MAX_MODE_PARAMETERS → limits.met.items ≡ [] → items ≡ []
    → Standing true letters words limits items (counted [] (letters_read true letters words))
begins letters words limits items room met none = record {
  earlier = [];
  remembers = record { room = room; met = λ byte. rw (met) refl };
  completes = ap (λ xs. xs ++ counted [] (letters_read true letters words)) none;
}

-- a sign was read
pub after_sign : (plus next : Bool) (letters : List ℕ) (i : ℕ) (words : List (List ℕ))
    (limits : Limits) (items whole : List Asked) → i < length letters
    → is_sign (get_or letters i 0) ≡ true → next ≡ nat_eq (get_or letters i 0) plus_byte
    → Standing plus (drop i letters) words limits items whole
    → Standing next (drop (i + 1) letters) words limits items whole
after_sign plus next letters i words limits items whole within is sign standing = record {
  earlier = standing.earlier;
  remembers = standing.remembers;
  completes =
      ap (λ read. items ++ counted standing.earlier read)
      (ap (λ s. letters_read s (drop (i + 1) letters) words) sign
      ∙ sym (sign_read plus (get_or letters i 0) (drop (i + 1) letters) words is)
      ∙ ap (λ left. letters_read plus left words) (sym (drop_more letters i 0 within)))
      ∙ standing.completes;
}

abbrev pub if_counts : Bool → Asked → List Asked
if_counts verdict item = cond verdict (item ∷ []) []

-- an item more, without where the bytes of its word lie
pub one_more : (verdict : Bool) (item : ModeItem) (before after : List ModeItem)
    → after ≡ before ++ cond verdict (item ∷ []) []
    → all_asked after ≡ all_asked before ++ if_counts verdict (asked item)
one_more true item before after is = ap all_asked is ∙ map-append asked before (item ∷ [])
one_more false item before after is = ap all_asked is ∙ map-append asked before []

-- another letter was read
pub after_letter : (plus : Bool) (letters : List ℕ) (i : ℕ) (words left : List (List ℕ))
    (limits later : Limits) (items more whole : List Asked)
    (read : ReadLetter) (verdict : Bool)
    → i < length letters → is_sign (get_or letters i 0) ≡ false
    → read ≡ reading plus (get_or letters i 0) (next_word words)
    → left ≡ words_after plus (get_or letters i 0) words
    → Judges limits read verdict later → more ≡ items ++ if_counts verdict read.asked
    → Standing plus (drop i letters) words limits items whole
    → Standing plus (drop (i + 1) letters) left later more whole
after_letter plus letters i words left limits later items more whole read verdict within is read_is
    left_is judged more_is standing =
    let earlier = standing.earlier in
    let byte = get_or letters i 0 in
    let rest = counted (earlier ++ read ∷ []) (letters_read plus (drop (i + 1) letters) left) in
    let all_read : read ∷ letters_read plus (drop (i + 1) letters) left
    ≡ letters_read plus (drop i letters) words =
    ap (λ r. r ∷ letters_read plus (drop (i + 1) letters) left) read_is
    ∙ ap (λ ws. reading plus byte (next_word words) ∷ letters_read plus
    (drop (i + 1) letters) ws) left_is
    ∙ sym (letter_read plus byte (drop (i + 1) letters) words is)
    ∙ ap (λ ls. letters_read plus ls words) (sym (drop_more letters i 0 within)) in
    record {
      earlier = earlier ++ read ∷ [];
      remembers = judged.remembering earlier standing.remembers;
      completes =
          ap (λ xs. xs ++ rest) more_is
          ∙ append_assoc items (if_counts verdict read.asked) rest
          ∙ ap (λ v. items ++ (if_counts v read.asked ++ rest))
          (judged.counting earlier standing.remembers)
          ∙ ap (λ rs. items ++ counted earlier rs) all_read
          ∙ standing.completes;
    }

-- no letter is left
pub at_end : (plus : Bool) (letters : List ℕ) (i : ℕ) (words : List (List ℕ))
    (limits : Limits) (items whole : List Asked) → length letters ≤ i
    → Standing plus (drop i letters) words limits items whole → items ≡ whole
at_end plus letters i words limits items whole past standing =
    sym (append-nil items)
    ∙ ap (λ left. items ++ counted standing.earlier (letters_read plus left words))
    (sym (drop_all i letters past))
    ∙ standing.completes
