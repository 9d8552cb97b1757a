-- The line of an NJOIN, piece by piece.
use Rattle.std.proofs.Common.{◌≡◌, ℕ, zero, suc, ◌+◌, ◌≤◌, ◌<◌, Some, List, [], ◌∷◌, ◌++◌, length}
use Rattle.std.proofs.Common.{get_or, take, drop, codes, arith, refl, sym, ap, ◌∙◌, append_assoc}
use Rattle.std.proofs.Common.{append-nil}
use Rattle.std.proofs.lemmas.List.{drop_more, drop_all, length-map}
use Rattle.irc_line.specs.Bytes.{cut, crlf}
use Rattle.irc_line.specs.Limits.{max_line}
use Rattle.irc_line.specs.Messages.{text, line_text}
use Rattle.irc_line.specs.Lemmas.CutLaws.{cut_two, cut_all}
use Rattle.irc_link_writer.specs.Written.{from}
use Rattle.irc_line.specs.Lemmas.CutPieces.{piece_on}
use Rattle.irc_link_reader.specs.declared.deed.NewMember.{NewMember}
use Rattle.irc_burst_lines.specs.DeedLines.{member_text, more_text}
use Rattle.irc_burst_lines.specs.Loops.Telling.{told_member, told_members}

-- a step of the loop over the members
pub more_on : (line mid new whole : List ℕ) (members : List NewMember) (i : ℕ) (d item : NewMember)
    → i < length members → item ≡ get_or members i d → mid ≡ cut (line ++ codes ",")
    → new ≡ cut (mid ++ member_text (told_member item))
    → cut (line ++ more_text (told_members (drop i members))) ≡ cut whole
    → cut (new ++ more_text (told_members (drop (i + 1) members))) ≡ cut whole
more_on line mid new whole members i d item within is comma named so_far =
    let one = cut_two line mid new (codes ",") (member_text (told_member item)) comma named in
    piece_on line new _ _ _
    (one ∙ ap (λ (m : NewMember). cut (line ++ (codes "," ++ member_text (told_member m)))) is)
    (ap (λ ms. more_text (told_members ms)) (drop_more members i d within))
    ∙ so_far

pub more_done : (line whole : List ℕ) (members : List NewMember) (i : ℕ) → length members ≤ i
    → length line ≤ max_line → cut (line ++ more_text (told_members (drop i members))) ≡ cut whole
    → line ≡ cut whole
more_done line whole members i past fits so_far =
    sym (ap cut (append-nil line) ∙ cut_all line fits)
    ∙ sym (ap (λ ms. cut (line ++ more_text (told_members ms))) (drop_all i members past))
    ∙ so_far

-- a member: two marks, and its nickname
pub member_pushed : (line a b d op voice nick : List ℕ) → a ≡ cut (line ++ op)
    → b ≡ cut (a ++ voice) → d ≡ cut (b ++ nick) → d ≡ cut (line ++ (op ++ voice ++ nick))
member_pushed line a b d op voice nick first second third =
    cut_two line b d (op ++ voice) nick (cut_two line a b op voice first second) third

-- all pieces of the line are its parts
behind_channel : (c m : List ℕ) → ((c ++ 32 ∷ []) ++ 58 ∷ []) ++ m ≡ (c ++ []) ++ 32 ∷ 58 ∷ m
behind_channel c m =
    ap (λ t. t ++ m) (append_assoc c (32 ∷ []) (58 ∷ []))
    ∙ append_assoc c (32 ∷ 58 ∷ []) m
    ∙ ap (λ t. t ++ 32 ∷ 58 ∷ m) (sym (append-nil c))

in_a_row : (x c m : List ℕ) → ((x ++ codes " NJOIN " ++ c ++ codes " ") ++ codes ":")
    ++ m ≡ (x ++ codes " ") ++ codes "NJOIN" ++ ((32 ∷ c) ++ []) ++ (32 ∷ 58 ∷ m)
in_a_row [] c m = ap (λ t. 32 ∷ 78 ∷ 74 ∷ 79 ∷ 73 ∷ 78 ∷ 32 ∷ t) (behind_channel c m)
in_a_row (x ∷ xs) c m = ap (λ t. x ∷ t) (in_a_row xs c m)

pub njoin_written : (name channel members : List ℕ) (a b d line : List ℕ)
    → a ≡ cut (codes ":" ++ name ++ codes " NJOIN " ++ channel ++ codes " ")
    → b ≡ cut (a ++ codes ":") → d ≡ cut (b ++ members) → line ≡ d ++ crlf
    → line ≡ text (from name (codes "NJOIN") (channel ∷ []) (Some members))
unfolding line_text
njoin_written name channel members a b d line head colon brought ended =
    let front = codes ":" ++ name ++ codes " NJOIN " ++ channel ++ codes " " in
    let whole = cut_two [] b d (front ++ codes ":") members
    (cut_two [] a b front (codes ":") head colon) brought in
    ended ∙ ap (λ l. l ++ crlf) (whole ∙ ap cut (in_a_row (codes ":" ++ name) channel members))

-- so many of some members
pub members_taken : (n : ℕ) (members : List NewMember)
    → told_members (take n members) ≡ take n (told_members members)
members_taken zero members = refl
members_taken (suc n) [] = refl
members_taken (suc n) (member ∷ members) =
    ap (λ more. told_member member ∷ more) (members_taken n members)

pub members_left : (n : ℕ) (members : List NewMember)
    → told_members (drop n members) ≡ drop n (told_members members)
members_left zero members = refl
members_left (suc n) [] = refl
members_left (suc n) (member ∷ members) = members_left n members

pub members_some : (members : List NewMember) → 0 < length members
    → 0 < length (told_members members)
members_some members some = let long = length-map members told_member in omega (arith, long, some)

pub members_none : (members : List NewMember) → length members ≡ 0
    → length (told_members members) ≡ 0
members_none members none = length-map members told_member ∙ none
