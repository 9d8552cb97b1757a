-- The lines that a pipe carries.
use Rattle.std.proofs.Common.{◌≡◌, ℕ, ◌+◌, ◌≤◌, true, false, List, [], ◌∷◌, ◌++◌, drop, take}
use Rattle.std.proofs.Common.{length, length-append, take-add, take-append-drop, take_all}
use Rattle.std.proofs.Common.{drop-drop, append_assoc, append-nil, refl, sym, ◌∙◌, ap, subst, arith}
use Rattle.std.proofs.Math.Seq.{drop-length, drop-nil, take-nil}
use Rattle.std.proofs.lemmas.List.{drop-append-le, take-append-le}
use Rattle.std.specs.List.{AllByRecursion}
use Rattle.irc_line.specs.Bytes.{crlf}
use Rattle.irc_line.specs.Laws.{LinesAreCompleted, PiecesCompleteTheSame}
use Rattle.irc_line.specs.Lines.{Begun, HasTaken, IsLine, begun_behind, completed, nothing_begun}
use Rattle.irc_line.specs.Lines.{stream_for}
use Rattle.irc_pipes.specs.Pipes.{LinkPipe, advanced, is_none, lines_by, lines_to_come, new_pipe}
use Rattle.irc_pipes.specs.Pipes.{through_line_feed, written}
use Rattle.irc_network.specs.ByteNetwork.{all_written}
use Rattle.irc_network.specs.Whole.{IsWhole, ends_in_feed}
use Rattle.irc_network.specs.Lemmas.NewFramer.{new_is_real}
use Rattle.irc_network.proofs.Feeds.{IsOf, append_ends, drop_ends, is_of, past_all, some_left}
use Rattle.irc_network.proofs.Feeds.{through_first, within_all}

-- what is known of framers
pub record IsKnownOfStreams : Type 0 where
  pub pieces : PiecesCompleteTheSame
  pub lines : LinesAreCompleted

-- a framer to which some stream led
abbrev IsReal : Begun → Type 0
IsReal begun = HasTaken begun (stream_for begun)

-- what is through the next LF completes one line at most
abbrev pub IsSingle : LinkPipe → Type 0
IsSingle pipe = length (lines_by (through_line_feed pipe.bytes) pipe) ≤ 1

module _ (known : IsKnownOfStreams) where
  -- ---- bytes that come to a framer to which some stream led

  module _ (pipe : LinkPipe) (real : IsReal pipe.begun) where
    real_advanced : (count : ℕ) → IsReal (advanced count pipe).begun
    real_advanced count = (known.pieces pipe.begun real).taken (take count pipe.bytes)

    real_parted : (count : ℕ) → lines_to_come pipe ≡ lines_by count pipe
        ++ lines_to_come (advanced count pipe)
    real_parted count =
        ap (completed pipe.begun) (sym (take-append-drop count pipe.bytes))
        ∙ ((known.pieces pipe.begun real).in_turn (take count pipe.bytes)
        (drop count pipe.bytes)).lines

    twice_advanced : (first second : ℕ)
        → advanced second (advanced first pipe) ≡ advanced (first + second) pipe
    twice_advanced first second = λ i. record {
      begun = (sym ((known.pieces pipe.begun real).in_turn (take first pipe.bytes)
          (take second (drop first pipe.bytes))).begun
          ∙ ap (begun_behind pipe.begun) (sym (take-add first second pipe.bytes))) i;
      bytes = drop-drop second first pipe.bytes i;
    }

  part_of : (all before these behind : List (List ℕ)) → all ≡ before ++ (these ++ behind)
      → length all ≤ 1 → length these ≤ 1
  part_of all before these behind is few =
      omega (
        arith,
        few,
        ap (λ ls. length ls) is,
        length-append before (these ++ behind),
        length-append these behind,
      )

  -- where all that is on its way completes one line at most, so does each part
  part_single : (pipe : LinkPipe) (real : IsReal pipe.begun) (count : ℕ)
      → length (lines_to_come pipe) ≤ 1 → IsSingle (advanced count pipe)
  part_single pipe real count single =
      let next = through_line_feed (drop count pipe.bytes) in
      part_of (lines_to_come pipe) (lines_by count pipe) (lines_by next (advanced count pipe))
      (lines_to_come (advanced next (advanced count pipe)))
      (real_parted pipe real count ∙ ap (λ ls. lines_by count pipe ++ ls)
      (real_parted (advanced count pipe) (real_advanced pipe real count) next)) single

  -- ---- a new one

  module _ (real_new : HasTaken nothing_begun (stream_for nothing_begun)) where
    pub new_has_none : lines_to_come new_pipe ≡ []
    new_has_none = (known.pieces nothing_begun real_new).none

    new_advanced : (count : ℕ) → advanced count new_pipe ≡ new_pipe
    new_advanced count = λ i. record {
      begun = (ap (begun_behind nothing_begun) (take-nil count)
          ∙ (known.pieces nothing_begun real_new).none_begun) i;
      bytes = drop-nil count i;
    }

    pub new_is_whole : IsWhole new_pipe
    new_is_whole = record {
      real = real_new;
      ends = (known.pieces nothing_begun real_new).none_begun;
      feed = refl;
      singly = λ come. subst IsSingle (sym (new_advanced come))
          (subst (λ ls. length ls ≤ 1) (sym new_has_none) (omega arith));
    }

  -- ---- all that is on its way has come

  module _ (pipe : LinkPipe) (whole : IsWhole pipe) where
    all_advanced : advanced (length pipe.bytes) pipe ≡ new_pipe
    all_advanced = λ i. record {
      begun = (ap (begun_behind pipe.begun) (take_all (length pipe.bytes) pipe.bytes (omega arith))
          ∙ whole.ends) i;
      bytes = drop-length pipe.bytes i;
    }

  -- ---- a line is written

  module _ (pipe : LinkPipe) (whole : IsWhole pipe) (line : List ℕ) (is : IsLine line) where
    one_more : lines_to_come (written line pipe) ≡ lines_to_come pipe ++ line ∷ []
    one_more =
        ((known.pieces pipe.begun whole.real).in_turn pipe.bytes (line ++ crlf)).lines
        ∙ ap (λ (begun : Begun). lines_to_come pipe ++ completed begun (line ++ crlf)) whole.ends
        ∙ ap (λ lines. lines_to_come pipe ++ lines) (known.lines line is).alone

    some_text : (bytes : List ℕ) → is_none (bytes ++ crlf) ≡ false
    some_text [] = refl
    some_text (byte ∷ bytes) = refl

    text_ends : ends_in_feed (line ++ crlf) ≡ true
    text_ends = append_ends line crlf refl refl

    written_before : (come : ℕ) → come ≤ length pipe.bytes
        → advanced come (written line pipe) ≡ written line (advanced come pipe)
    written_before come within = λ i. record {
      begun = begun_behind pipe.begun (take-append-le come pipe.bytes (line ++ crlf) within i);
      bytes = drop-append-le come pipe.bytes (line ++ crlf) within i;
    }

    -- what is left of the line alone, once all that was before it has come
    alone_single : (count : ℕ) → IsSingle (advanced count (written line new_pipe))
    alone_single count = part_single (written line new_pipe) new_is_real count
        (subst (λ ls. length ls ≤ 1) (sym (known.lines line is).alone) (omega arith))

    -- the next LF is before the line
    first_single : (come : ℕ) → is_none (drop come pipe.bytes) ≡ false
        → IsSingle (written line (advanced come pipe))
    first_single come left =
        subst (λ n. length (completed (advanced come pipe).begun
        (take n (drop come pipe.bytes ++ (line ++ crlf)))) ≤ 1)
        (sym (through_first (drop come pipe.bytes) (line ++ crlf) left
        (drop_ends come pipe.bytes whole.feed)))
        (subst (λ bytes. length (completed (advanced come pipe).begun bytes) ≤ 1)
        (sym (take-append-le (through_line_feed (drop come pipe.bytes)) (drop come pipe.bytes)
        (line ++ crlf) (within_all (drop come pipe.bytes))))
        (whole.singly come))

    real_written : IsReal (written line pipe).begun
    real_written = whole.real

    still_single : (come : ℕ) → IsOf come pipe.bytes → IsSingle (advanced come (written line pipe))
    still_single come (some_left within left) =
        subst IsSingle (sym (written_before come within)) (first_single come left)
    still_single come (past_all more come_is) =
        subst IsSingle
        (ap (advanced more) (ap (written line) (sym (all_advanced pipe whole))
        ∙ sym (written_before (length pipe.bytes) (omega arith)))
        ∙ twice_advanced (written line pipe) real_written (length pipe.bytes) more
        ∙ ap (λ n. advanced n (written line pipe)) (sym come_is))
        (alone_single more)

    stays_whole : IsWhole (written line pipe)
    stays_whole = record {
      real = whole.real;
      ends = ((known.pieces pipe.begun whole.real).in_turn pipe.bytes (line ++ crlf)).begun
          ∙ ap (λ (begun : Begun). begun_behind begun (line ++ crlf)) whole.ends
          ∙ (known.lines line is).nothing_left;
      feed = append_ends pipe.bytes (line ++ crlf) (some_text line) text_ends;
      singly = λ come. still_single come (is_of come pipe.bytes);
    }

  pub record AreWritten (pipe : LinkPipe) (lines : List (List ℕ)) : Type 0 where
    pub lines_are : lines_to_come (all_written lines pipe) ≡ lines_to_come pipe ++ lines
    pub whole : IsWhole (all_written lines pipe)

  pub all_are_written : (pipe : LinkPipe) (lines : List (List ℕ)) → IsWhole pipe
      → AllByRecursion IsLine lines → AreWritten pipe lines
  all_are_written pipe [] whole all =
      record { lines_are = sym (append-nil (lines_to_come pipe)); whole = whole }
  all_are_written pipe (line ∷ lines) whole all =
      let rest =
      all_are_written (written line pipe) lines (stays_whole pipe whole line all.0) all.1 in
      record {
        lines_are = rest.lines_are ∙ ap (λ l. l ++ lines) (one_more pipe whole line all.0)
            ∙ append_assoc (lines_to_come pipe) (line ∷ []) lines;
        whole = rest.whole;
      }

  -- ---- bytes come

  module _ (pipe : LinkPipe) (whole : IsWhole pipe) (count : ℕ) where
    pub lines_parted : lines_to_come pipe ≡ lines_by count pipe
        ++ lines_to_come (advanced count pipe)
    lines_parted = real_parted pipe whole.real count

    pub advanced_is_whole : IsWhole (advanced count pipe)
    advanced_is_whole = record {
      real = real_advanced pipe whole.real count;
      ends = sym ((known.pieces pipe.begun whole.real).in_turn (take count pipe.bytes)
          (drop count pipe.bytes)).begun
          ∙ ap (begun_behind pipe.begun) (take-append-drop count pipe.bytes) ∙ whole.ends;
      feed = drop_ends count pipe.bytes whole.feed;
      singly = λ come. subst IsSingle (sym (twice_advanced pipe whole.real count come))
          (whole.singly (count + come));
    }
