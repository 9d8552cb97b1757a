-- Texts on their way, of the oldest of which a part has come.
use Rattle.std.proofs.Common.{◌≡◌, ℕ, zero, suc, ◌<◌, ◌≤◌, ◌==◌, Bool, true, false, cond, List, []}
use Rattle.std.proofs.Common.{◌∷◌, ◌++◌, drop, length, refl, sym, ◌∙◌, ap, arith, if◌then◌else◌}
use Rattle.std.proofs.Common.{length-drop, append-nil, length-append, subst, rules}
use Rattle.std.proofs.lemmas.Grind.{flat_map-append}
use Rattle.std.proofs.lemmas.Bool.{and_from}
use Rattle.std.proofs.lemmas.List.Folds.{list_all-append}
use Rattle.std.proofs.lemmas.List.{drop-append-le}
use Rattle.arrayvec.specs.ArrayVec.{ArrayVec}
use Rattle.irc_line.specs.Bytes.{crlf, line_feed}
use Rattle.irc_line.specs.Lines.{Begun}
use Rattle.irc_pipes.specs.Pipes.{is_none, through_line_feed}
use Rattle.irc_pipes.specs.Loops.Parts.{IsOnItsWay, IsPartOfOldest, IsWithinOldest, all_end_in_feed}
use Rattle.irc_pipes.specs.Loops.Parts.{ends_in_feed, joined, rest_of_oldest}

-- ---- one text

pub ends_crlf : (line : List ℕ) → ends_in_feed (line ++ crlf) ≡ true
ends_crlf [] = refl
ends_crlf (byte ∷ []) = refl
ends_crlf (byte ∷ next ∷ bytes) = ends_crlf (next ∷ bytes)

-- some byte is in it
pub some_byte : (bytes : List ℕ) → ends_in_feed bytes ≡ true → 0 < length bytes
some_byte [] ends = cc ends
some_byte (byte ∷ bytes) ends = omega arith

-- what is left of it ends so too
pub rest_ends : (count : ℕ) (bytes : List ℕ) → count < length bytes → ends_in_feed bytes ≡ true
    → ends_in_feed (drop count bytes) ≡ true
rest_ends zero bytes less ends = ends
rest_ends (suc count) [] less ends = absurd (omega arith)
rest_ends (suc count) (byte ∷ []) less ends = absurd (omega arith)
rest_ends (suc count) (byte ∷ next ∷ bytes) less ends =
    rest_ends count (next ∷ bytes) (omega arith) ends

-- so what follows it plays no part up to the LF
pub feed_within : (bytes more : List ℕ) → ends_in_feed bytes ≡ true
    → through_line_feed (bytes ++ more) ≡ through_line_feed bytes
feed_within [] more ends = cc ends
feed_within (byte ∷ []) more ends = by (byte == line_feed) ends
  where
    by : (b : Bool) → b ≡ true → cond b 1 (suc (through_line_feed more)) ≡ cond b 1 1
    by true is = refl
    by false is = cc is
feed_within (byte ∷ next ∷ bytes) more ends =
    ap (λ n. cond (byte == line_feed) 1 (suc n)) (feed_within (next ∷ bytes) more ends)

-- ---- all that are on their way

-- the texts behind the oldest
abbrev pub later : List (ArrayVec ℕ) → List (ArrayVec ℕ)
later [] = []
later (text ∷ texts) = texts

pub bytes_are : (come : ℕ) (texts : List (ArrayVec ℕ)) → IsWithinOldest come texts
    → drop come (joined texts) ≡ rest_of_oldest come texts ++ joined (later texts)
bytes_are come [] none = ap (λ n. drop n []) none
bytes_are come (text ∷ texts) within = drop-append-le come text.items (joined texts) within

pub part_is_within : (come : ℕ) (texts : List (ArrayVec ℕ)) → IsPartOfOldest come texts
    → IsWithinOldest come texts
part_is_within come [] none = none
part_is_within come (text ∷ texts) less = omega arith

within_all : (come : ℕ) (texts : List (ArrayVec ℕ)) → IsWithinOldest come texts
    → come ≤ length (joined texts)
within_all come [] none = omega (arith, none)
within_all come (text ∷ texts) within = let all = length-append text.items (joined texts) in
    omega (arith, all)

-- a text behind the others
joined-append : (come : ℕ) (texts : List (ArrayVec ℕ)) (text : ArrayVec ℕ)
    → IsPartOfOldest come texts → drop come (joined (texts ++ text ∷ [])) ≡ drop come (joined texts)
    ++ text.items
joined-append come texts text part =
    ap (drop come) (flat_map-append (λ (t : ArrayVec ℕ). t.items) texts (text ∷ [])
    ∙ ap (λ bytes. joined texts ++ bytes) (append-nil text.items))
    ∙ drop-append-le come (joined texts) text.items
    (within_all come texts (part_is_within come texts part))

part_behind : (come : ℕ) (texts : List (ArrayVec ℕ)) (text : ArrayVec ℕ) → IsPartOfOldest come texts
    → 0 < length text.items → IsPartOfOldest come (texts ++ text ∷ [])
part_behind come [] text none some = omega (arith, none)
part_behind come (first ∷ texts) text less some = less

feeds_behind : (texts : List (ArrayVec ℕ)) (text : ArrayVec ℕ) → all_end_in_feed texts ≡ true
    → ends_in_feed text.items ≡ true → all_end_in_feed (texts ++ text ∷ []) ≡ true
feeds_behind texts text feeds ends =
    list_all-append (λ (t : ArrayVec ℕ). ends_in_feed t.items) texts (text ∷ [])
    ∙ and_from _ _ feeds (and_from _ _ ends refl)

pub kept_behind : (result : Bool) (come : ℕ) (texts new : List (ArrayVec ℕ)) (text : ArrayVec ℕ)
    (line : List ℕ) (begun : Begun) → IsOnItsWay come texts begun → text.items ≡ line ++ crlf
    → new ≡ (if result then texts ++ text ∷ [] else texts) → IsOnItsWay come new begun
kept_behind false come texts new text line begun kept is same =
    subst (λ ts. IsOnItsWay come ts begun) (sym same) kept
kept_behind true come texts new text line begun kept is more =
    subst (λ ts. IsOnItsWay come ts begun) (sym more) (record {
      part = part_behind come texts text kept.part (some_byte text.items ends);
      feeds = feeds_behind texts text kept.feeds ends;
      of_some_stream = kept.of_some_stream;
    })
  where
    ends : ends_in_feed text.items ≡ true
    ends = ap ends_in_feed is ∙ ends_crlf line

-- ---- whether a byte is on its way

none_of : (bytes more : List ℕ) → 0 < length bytes → is_none (bytes ++ more) ≡ false
none_of [] more some = absurd (omega arith)
none_of (byte ∷ bytes) more some = refl

not_zero : (n : ℕ) → (suc n == 0) ≡ false
not_zero n = search rules

pub none_is : (come : ℕ) (texts : List (ArrayVec ℕ)) → IsPartOfOldest come texts
    → is_none (drop come (joined texts)) ≡ (length texts == 0)
none_is come [] none = ap (λ n. is_none (drop n [])) none
none_is come (text ∷ texts) less =
    ap is_none (bytes_are come (text ∷ texts) (part_is_within come (text ∷ texts) less))
    ∙ none_of (drop come text.items) (joined texts) (let left = length-drop come text.items in
    omega (arith, left))
    ∙ sym (not_zero (length texts))
