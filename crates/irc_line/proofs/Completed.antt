-- The lines that bytes complete, piece by piece; and what is written is a line.
use Rattle.std.proofs.Common.{◌≡◌, ◌≢◌, ℕ, ◌<◌, Bool, true, false, not, ◌||◌, ◌&&◌, cond, Option}
use Rattle.std.proofs.Common.{Some, None, List, [], ◌∷◌, ◌++◌, length, refl, sym, ◌∙◌, ap, subst}
use Rattle.std.proofs.Common.{append-nil, arith}
use Rattle.std.specs.Prelude.{option_to_list, unwrap_or}
use Rattle.std.specs.List.{list_any, AllByRecursion}
use Rattle.std.specs.Cmp.{first_so, second_so}
use Rattle.std.proofs.lemmas.List.Folds.{list_all-append}
use Rattle.irc_line.specs.Bytes.{is_line_end, is_nul, has_nul, cut, crlf, carriage_return}
use Rattle.irc_line.specs.Bytes.{line_feed, space}
use Rattle.irc_line.specs.Carried.{AreCarriedParts, IsCarried, is_carried, is_carried_byte}
use Rattle.irc_line.specs.Laws.{AreTakenInTurn, LinesAreCompleted, PiecesCompleteTheSame}
use Rattle.irc_line.specs.Laws.{WrittenIsLine}
use Rattle.irc_line.specs.Lemmas.CutLaws.{cut_all}
use Rattle.irc_line.specs.Lines.{Begun, HasTaken, Takes, TellsTail, begun_behind, begun_of}
use Rattle.irc_line.specs.Lines.{completed, has_nothing, is_empty, lines, nothing_begun, stream_for}
use Rattle.irc_line.specs.Lines.{tail}
use Rattle.irc_line.specs.Loops.Framing.{go_on, line_begun}
use Rattle.irc_line.specs.Messages.{Written, joined_text, last_text, line_text, middle_text}
use Rattle.irc_line.specs.Messages.{prefix_of, prefix_text}
use Rattle.irc_line.specs.Lemmas.CarriedBytes.{carried_no_nul}
use Rattle.irc_line.proofs.Pieces.{lines-run, tail_has_no_end}
use Rattle.irc_line.proofs.Runs.{no_lines}
use Rattle.irc_line.proofs.Streams.{is_empty-cut, has_taken_some, length-cut, list_any-cut}
use Rattle.irc_line.proofs.Streams.{new_has_taken, stream_for_has_no_end, takes_append, takes_end}
use Rattle.irc_line.proofs.Streams.{takes_run}

-- ---- any bytes are taken

pub record Taken (old : Begun) (bytes : List ℕ) : Type 0 where
  pub found : List (List ℕ)
  pub new : Begun
  pub takes : Takes old bytes found new

takes_nothing : (old : Begun) → Takes old [] [] old
takes_nothing old = record {
  framer = λ stream taken. taken ∙ ap (λ s. begun_of (tail s)) (sym (append-nil stream));
  lines_found = λ stream taken. ap lines (append-nil stream) ∙ sym (append-nil (lines stream));
}

one_taken : (old : Begun) (b : ℕ) → Taken old (b ∷ [])
one_taken old b = by (is_line_end b) refl
  where
    by : (ends : Bool) → is_line_end b ≡ ends → Taken old (b ∷ [])
    by true ends = record {
      found = option_to_list (line_begun old);
      new = nothing_begun;
      takes = takes_end old b ends;
    }
    by false goes_on = record {
      found = [];
      new = go_on old (b ∷ []);
      takes = takes_run old (b ∷ []) (ap (λ e. e || false) goes_on);
    }

all_taken : (old : Begun) (bytes : List ℕ) → Taken old bytes
all_taken old [] = record { found = []; new = old; takes = takes_nothing old }
all_taken old (b ∷ bytes) =
    let first = one_taken old b in
    let rest = all_taken first.new bytes in
    record {
      found = first.found ++ rest.found;
      new = rest.new;
      takes = takes_append old first.new
          rest.new (b ∷ []) bytes first.found rest.found first.takes rest.takes;
    }

-- ---- what they complete

module _ (framer : Begun) (real : HasTaken framer (stream_for framer)) where
  no_line_yet : lines (stream_for framer) ≡ []
  no_line_yet = lines-run [] (stream_for framer)
      (subst (λ (f : Begun). list_any is_line_end (stream_for f) ≡ false) (sym real)
      (stream_for_has_no_end (tail (stream_for framer)) (tail_has_no_end (stream_for framer))))
      ∙ no_lines

  found_are : (bytes : List ℕ) (found : List (List ℕ)) (new : Begun) → Takes framer bytes found new
      → found ≡ completed framer bytes
  found_are bytes found new takes =
      sym (takes.lines_found (stream_for framer) real ∙ ap (λ ls. ls ++ found) no_line_yet)

  new_is : (bytes : List ℕ) (found : List (List ℕ)) (new : Begun) → Takes framer bytes found new
      → new ≡ begun_behind framer bytes
  new_is bytes found new takes = takes.framer (stream_for framer) real

  real_behind : (bytes : List ℕ)
      → HasTaken (begun_behind framer bytes) (stream_for (begun_behind framer bytes))
  real_behind bytes = has_taken_some (begun_behind framer bytes) (stream_for framer ++ bytes) refl

pub pieces_complete_the_same : PiecesCompleteTheSame
pieces_complete_the_same framer real = record {
  none = sym (found_are framer real [] [] framer (takes_nothing framer));
  none_begun = sym (new_is framer real [] [] framer (takes_nothing framer));
  in_turn = λ first second. in_turn first second;
  taken = real_behind framer real;
  takes = λ bytes found new takes.
      (found_are framer real bytes found new takes, new_is framer real bytes found new takes);
}
  where
    in_turn : (first second : List ℕ) → AreTakenInTurn framer first second
    in_turn first second =
        let one = all_taken framer first in
        let behind = begun_behind framer first in
        let here : Takes framer first one.found behind =
        subst (λ (f : Begun). Takes framer first one.found f)
        (new_is framer real first one.found one.new one.takes) one.takes in
        let two = all_taken behind second in
        let both =
        takes_append framer behind two.new first second one.found two.found here two.takes in
        record {
          lines =
              sym (found_are framer real (first ++ second) (one.found ++ two.found) two.new both)
              ∙ ap (λ ls. ls ++ two.found) (found_are framer real first one.found one.new one.takes)
              ∙ ap (λ ls. completed framer first ++ ls) (found_are behind
              (real_behind framer real first) second two.found two.new two.takes);
          begun = sym (new_is framer real (first ++ second) (one.found ++ two.found) two.new both)
              ∙ new_is behind (real_behind framer real first) second two.found two.new two.takes;
        }

-- ---- a line with its CR LF

some_is : (line : List ℕ) → 0 < length line → is_empty line ≡ false
some_is [] some = absurd (none_below some)
  where
    none_below : 0 < 0 → ⊥
    none_below less = omega (arith, less)
some_is (b ∷ line) some = refl

a_line : (kept : List ℕ) (empty nul : Bool) → is_empty kept ≡ empty → empty ≡ false → nul ≡ false
    → option_to_list (cond (empty || nul) None (Some kept)) ≡ kept ∷ []
a_line kept true nul is some none = cc some
a_line kept false true is some none = cc none
a_line kept false false is some none = refl

pub lines_are_completed : LinesAreCompleted
unfolding cut
lines_are_completed line is = record {
  alone = sym (found_are nothing_begun new_real (line ++ crlf) (line ∷ []) nothing_begun all);
  nothing_left = sym (new_is nothing_begun new_real (line ++ crlf) (line ∷ []) nothing_begun all);
}
  where
    new_real : HasTaken nothing_begun (stream_for nothing_begun)
    new_real = has_taken_some nothing_begun [] new_has_taken

    mid : Begun
    mid = go_on nothing_begun line

    kept_is : mid.kept ≡ line
    kept_is = cut_all line is.fits

    given : option_to_list (line_begun mid) ≡ line ∷ []
    given = ap (λ kept. option_to_list
        (cond (is_empty kept || (false || has_nul line)) None (Some kept))) kept_is
        ∙ a_line line (is_empty line) (false || has_nul line) refl
        (some_is line is.some_byte) is.no_nul

    ended : Takes mid crlf ((line ∷ []) ++ []) nothing_begun
    ended = takes_append mid nothing_begun nothing_begun (carriage_return ∷ []) (line_feed ∷ [])
        (line ∷ []) []
        (subst (λ found. Takes mid (carriage_return ∷ []) found nothing_begun) given
        (takes_end mid carriage_return refl))
        (takes_end nothing_begun line_feed refl)

    all : Takes nothing_begun (line ++ crlf) (line ∷ []) nothing_begun
    all = takes_append nothing_begun mid nothing_begun line crlf [] (line ∷ [])
        (takes_run nothing_begun line is.no_end) ended

-- ---- what is written

both_carried : (xs ys : List ℕ) → IsCarried xs → IsCarried ys → IsCarried (xs ++ ys)
both_carried xs ys first second =
    list_all-append is_carried_byte xs ys ∙ ap (λ b. b && is_carried ys) first ∙ second

words_carried : (words : List (List ℕ)) → AllByRecursion IsCarried words
    → IsCarried (middle_text words)
words_carried [] all = refl
words_carried (word ∷ words) all =
    both_carried (space ∷ word) (middle_text words) all.0 (words_carried words all.1)

prefix_carried : (prefix : Option (List ℕ)) → IsCarried (unwrap_or prefix [])
    → IsCarried (prefix_text prefix)
prefix_carried None carried = refl
prefix_carried (Some name) carried = both_carried name (space ∷ []) carried refl

last_carried : (last : Option (List ℕ)) → IsCarried (unwrap_or last []) → IsCarried (last_text last)
last_carried None carried = refl
last_carried (Some last) carried = carried

joined_carried : (parts : Written) → AreCarriedParts parts → IsCarried (joined_text parts)
joined_carried parts are =
    let prefix = prefix_text (prefix_of parts.sender) in
    both_carried (prefix ++ parts.command ++ middle_text parts.middle) (last_text parts.last)
    (both_carried (prefix ++ parts.command) (middle_text parts.middle)
    (both_carried prefix parts.command (prefix_carried (prefix_of parts.sender) are.sender)
    are.command) (words_carried parts.middle are.middle))
    (last_carried parts.last are.last)

no_end_byte : (nul end : Bool) → not (nul || end) ≡ true → end ≡ false
no_end_byte true end is = cc is
no_end_byte false true is = cc is
no_end_byte false false is = refl

carried_no_end : (bytes : List ℕ) → IsCarried bytes → list_any is_line_end bytes ≡ false
carried_no_end [] all = refl
carried_no_end (b ∷ bytes) all =
    ap (λ v. v || list_any is_line_end bytes) (no_end_byte (is_nul b) (is_line_end b)
    (first_so (is_carried_byte b) (is_carried bytes) all))
    ∙ carried_no_end bytes (second_so (is_carried_byte b) (is_carried bytes) all)

some_length : (xs : List ℕ) → is_empty xs ≡ false → 0 < length xs
some_length [] some = cc some
some_length (x ∷ xs) some = omega arith

behind_is_some : (xs ys : List ℕ) → is_empty ys ≡ false → is_empty (xs ++ ys) ≡ false
behind_is_some [] ys some = some
behind_is_some (x ∷ xs) ys some = refl

front_is_some : (xs ys : List ℕ) → is_empty xs ≡ false → is_empty (xs ++ ys) ≡ false
front_is_some [] ys some = cc some
front_is_some (x ∷ xs) ys some = refl

not_empty : (xs : List ℕ) → xs ≢ [] → is_empty xs ≡ false
not_empty [] some = absurd (some refl)
not_empty (x ∷ xs) some = refl

pub written_is_line : WrittenIsLine
unfolding line_text
written_is_line parts are = record {
  some_byte = some_length (cut whole) (is_empty-cut whole ∙ some);
  fits = length-cut whole;
  no_nul = list_any-cut is_nul whole (carried_no_nul whole (joined_carried parts are));
  no_end = list_any-cut is_line_end whole (carried_no_end whole (joined_carried parts are));
}
  where
    whole : List ℕ
    whole = joined_text parts

    prefix : List ℕ
    prefix = prefix_text (prefix_of parts.sender)

    some : is_empty whole ≡ false
    some =
        front_is_some (prefix ++ parts.command ++ middle_text parts.middle) (last_text parts.last)
        (front_is_some (prefix ++ parts.command) (middle_text parts.middle)
        (behind_is_some prefix parts.command (not_empty parts.command are.command_some)))

-- ---- whether a part of a line has come

empty_tail : (t : List ℕ) → has_nothing (begun_of t) ≡ is_empty t
unfolding cut
empty_tail [] = refl
empty_tail (b ∷ t) = refl

pub tells_tail : (framer : Begun) (none : Bool) → none ≡ has_nothing framer → TellsTail framer none
tells_tail framer none is = λ stream taken. is ∙ ap has_nothing taken ∙ empty_tail (tail stream)
