-- What comes of the oldest text.
use Rattle.std.proofs.Common.{◌≡◌, ℕ, zero, suc, ◌+◌, ◌≤◌, true, List, [], ◌∷◌}
use Rattle.std.proofs.Common.{◌++◌, drop, take, length, refl, sym, ◌∙◌, ap, arith, length-append}
use Rattle.std.proofs.Common.{length-take, subst}
use Rattle.std.proofs.lemmas.List.{drop-drop}
use Rattle.std.specs.Cmp.{first_so}
use Rattle.arrayvec.specs.ArrayVec.{ArrayVec}
use Rattle.irc_line.specs.Laws.{PiecesCompleteTheSame}
use Rattle.irc_line.specs.Lines.{Begun, HasTaken, Takes, begun_behind, completed, stream_for}
use Rattle.irc_pipes.specs.Pipes.{advanced, through_line_feed}
use Rattle.irc_pipes.specs.Loops.Parts.{IsOnItsWay, IsPartOfOldest, all_end_in_feed, joined}
use Rattle.irc_pipes.specs.Loops.Parts.{rest_of_oldest}
use Rattle.irc_pipes.proofs.Texts.{bytes_are, feed_within, later, part_is_within, rest_ends}

front_of : (used most : ℕ) (rest more : List ℕ) → used ≤ length (take most rest)
    → take used (take most rest) ≡ take used (rest ++ more)
front_of zero most rest more within = refl
front_of (suc used) zero rest more within = absurd (omega arith)
front_of (suc used) (suc most) [] more within = absurd (omega arith)
front_of (suc used) (suc most) (byte ∷ rest) more within =
    ap (λ bytes. byte ∷ bytes) (front_of used most rest more (omega arith))

-- what the framer takes is the front of all that is on its way
front_of_all : (come used most : ℕ) (texts : List (ArrayVec ℕ)) (piece : List ℕ)
    → IsPartOfOldest come texts → piece ≡ take most (rest_of_oldest come texts)
    → used ≤ length piece → take used piece ≡ take used (drop come (joined texts))
front_of_all come used most texts piece part is within =
    ap (take used) is ∙ front_of used most (rest_of_oldest come texts) (joined (later texts))
    (subst (λ bytes. used ≤ length bytes) is within)
    ∙ ap (take used) (sym (bytes_are come texts (part_is_within come texts part)))

pub used_within : (come used most : ℕ) (texts : List (ArrayVec ℕ)) (piece : List ℕ)
    → IsPartOfOldest come texts → piece ≡ take most (rest_of_oldest come texts)
    → used ≤ length piece → used ≤ length (drop come (joined texts))
used_within come used most texts piece part is within =
    let cut = ap length is ∙ length-take most (rest_of_oldest come texts) in
    let all = ap length (bytes_are come texts (part_is_within come texts part))
    ∙ length-append (rest_of_oldest come texts) (joined (later texts)) in
    omega (arith, cut, all)

-- a framer that takes a piece is then as the definition says, and has found its lines
piece_taken : PiecesCompleteTheSame → (begun new : Begun) (bytes : List ℕ) (found : List (List ℕ))
    → HasTaken begun (stream_for begun) → Takes begun bytes found new
    → (found ≡ completed begun bytes) × (new ≡ begun_behind begun bytes)
piece_taken pieces begun new bytes found stream takes =
    (pieces begun stream).takes bytes found new takes

module _ (pieces : PiecesCompleteTheSame) (come used most : ℕ) (texts : List (ArrayVec ℕ))
    (piece : List ℕ) (begun new : Begun) (found : List (List ℕ))
    (kept : IsOnItsWay come texts begun) (is : piece ≡ take most (rest_of_oldest come texts))
    (within : used ≤ length piece)
    (takes : Takes begun (take used piece) found new) where
  pub part_found : found ≡ completed begun (take used (drop come (joined texts)))
  part_found =
      (piece_taken pieces begun new (take used piece) found kept.of_some_stream takes).0
      ∙ ap (completed begun) (front_of_all come used most texts piece kept.part is within)

  pub part_begun : new ≡ begun_behind begun (take used (drop come (joined texts)))
  part_begun =
      (piece_taken pieces begun new (take used piece) found kept.of_some_stream takes).1
      ∙ ap (begun_behind begun) (front_of_all come used most texts piece kept.part is within)

  pub part_stream : HasTaken new (stream_for new)
  part_stream = subst (λ b. HasTaken b (stream_for b)) (sym part_begun)
      ((pieces begun kept.of_some_stream).taken (take used (drop come (joined texts))))

  pub part_advanced : (bytes : List ℕ) → bytes ≡ drop (come + used) (joined texts)
      → record { begun = new; bytes = bytes } ≡ advanced used
      (record { begun = begun; bytes = drop come (joined texts) })
  part_advanced bytes left = λ i.
      record { begun = part_begun i; bytes = (left ∙ sym (drop-drop used come (joined texts))) i }

-- ---- up to an LF

pub feed_of_all : (come : ℕ) (texts : List (ArrayVec ℕ)) (begun : Begun)
    → IsOnItsWay come texts begun
    → through_line_feed (rest_of_oldest come texts) ≡ through_line_feed (drop come (joined texts))
feed_of_all come texts begun kept = by texts kept.part kept.feeds
  where
    by : (texts : List (ArrayVec ℕ)) → IsPartOfOldest come texts → all_end_in_feed texts ≡ true
        → through_line_feed (rest_of_oldest come texts) ≡ through_line_feed
        (drop come (joined texts))
    by [] part feeds = ap (λ n. through_line_feed (drop n [])) (sym part)
    by (text ∷ texts) part feeds =
        sym (feed_within (drop come text.items) (joined texts)
        (rest_ends come text.items part (first_so _ _ feeds)))
        ∙ ap through_line_feed
        (sym (bytes_are come (text ∷ texts) (part_is_within come (text ∷ texts) part)))
