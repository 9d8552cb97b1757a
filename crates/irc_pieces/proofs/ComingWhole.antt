-- Lines that are put out as a piece come as it.
use Rattle.std.proofs.Common.{◌≡◌, ◌≤◌, ℕ, suc, Bool, true, false, not, ◌&&◌, ◌||◌}
use Rattle.std.proofs.Common.{Option, Some, None, List, [], ◌∷◌, ◌++◌, length, refl, sym, ap, ◌∙◌}
use Rattle.std.proofs.Common.{subst, arith, nat_eq, nat_le, nat_lt, is_some, if◌then◌else◌}
use Rattle.std.proofs.Common.{append_assoc}
use Rattle.std.proofs.lemmas.Bool.Decides.{nat_tests}
use Rattle.std.specs.Cmp.{first_so, second_so}
use Rattle.std.specs.List.{AllByRecursion}
use Rattle.std.proofs.lemmas.Bool.{false≢true}
use Rattle.irc_pieces.specs.Counting.{count_line, count_parts}
use Rattle.irc_pieces.specs.Ends.{after_as, after_line, after_text, begun, heard_as}
use Rattle.irc_pieces.specs.Ends.{heard_line, heard_text, may_begin, whole, with_line}
use Rattle.irc_batch.specs.declared.close_reason.CloseReason.TheVariants.{Parameters}
use Rattle.irc_pieces.specs.Laws.{CountsAreRead, IsBetween, IsCount, IsHeardWhole, MayBePiece}
use Rattle.irc_pieces.specs.Laws.{after_all, all_heard, lines_of_count, pieces_in}
use Rattle.irc_pieces.specs.Pieces.{CountedEnd, Lines}
use Rattle.irc_pieces.specs.Tallies.{count_now, is_plain, is_possible}
use Rattle.irc_pieces.specs.declared.count.Count.{Count}
use Rattle.irc_pieces.specs.declared.count.Mark.{Mark}
use Rattle.irc_pieces.specs.declared.piece_end.Heard.TheVariants.{Nothing, Fault}
use Rattle.irc_line.specs.Messages.{line_text}

-- of these lines an end hears this piece, and is between two pieces then
record Comes (end : CountedEnd) (lines whole : Lines) (mark : Option Mark) : Type 0 where
  heard : pieces_in (all_heard lines end) ≡ Some (record { lines = whole; mark = mark } ∷ [])
  between : IsBetween (after_all lines end)

at_rest : (end : CountedEnd) (line : List ℕ) → IsBetween (after_text 0 line end)
at_rest end line = record { left = refl; mark = refl; lines = refl; bytes = refl }

-- the last line
last_comes : (end : CountedEnd) (line : List ℕ) → count_line line ≡ None
    → heard_text end.left line end ≡ whole (with_line 0 line end)
    → after_text end.left line end ≡ after_text 0 line end
    → Comes end (line ∷ []) (end.lines ++ line ∷ []) end.mark
last_comes end line none heard after = record {
  heard = ap (λ h. pieces_in (h ∷ [])) (ap (λ c. heard_as c line end) none ∙ heard);
  between = subst IsBetween (sym (ap (λ c. after_as c line end) none ∙ after)) (at_rest end line);
}

-- all lines of a piece that has begun
rest_comes : (line : List ℕ) (lines : Lines) (end : CountedEnd) → end.left ≡ suc (length lines)
    → AllByRecursion (λ l. count_line l ≡ None) (line ∷ lines)
    → Comes end (line ∷ lines) (end.lines ++ line ∷ lines) end.mark
rest_comes line [] end left texts =
    last_comes end line texts.0 (ap (λ n. heard_text n line end) left)
    (ap (λ n. after_text n line end) left)
rest_comes line (next ∷ lines) end left texts =
    let behind = with_line (suc (length lines)) line end in
    let quiet : heard_line line end ≡ Nothing =
    ap (λ c. heard_as c line end) texts.0 ∙ ap (λ n. heard_text n line end) left in
    let after : after_line line end ≡ behind =
    ap (λ c. after_as c line end) texts.0 ∙ ap (λ n. after_text n line end) left in
    let more = rest_comes next lines behind refl texts.1 in
    record {
      heard =
          ap (λ h. pieces_in (h ∷ all_heard (next ∷ lines) (after_line line end))) quiet
          ∙ ap (λ e. pieces_in (all_heard (next ∷ lines) e)) after ∙ more.heard
          ∙ ap (λ ls. Some (record { lines = ls; mark = end.mark } ∷ []))
          (append_assoc end.lines (line ∷ []) (next ∷ lines));
      between = subst (λ e. IsBetween (after_all (next ∷ lines) e)) (sym after) more.between;
    }

-- a line alone
alone_comes : (end : CountedEnd) (line : List ℕ) → IsBetween end → count_line line ≡ None
    → Comes end (line ∷ []) (line ∷ []) None
alone_comes end line between none =
    let comes = last_comes end line none (ap (λ n. heard_text n line end) between.left)
    (ap (λ n. after_text n line end) between.left) in
    record {
      heard =
          comes.heard
          ∙ ap (λ ls. Some (record { lines = ls ++ line ∷ []; mark = end.mark } ∷ []))
          between.lines
          ∙ ap (λ m. Some (record { lines = line ∷ []; mark = m } ∷ [])) between.mark;
      between = comes.between;
    }

-- ---- behind a count

begins : (end : CountedEnd) (count : Count) → IsBetween end
    → is_possible end.counts count.read ≡ true → may_begin count end ≡ true
begins end count between possible =
    ap (λ n. nat_eq n 0 && is_possible end.counts count.read) between.left ∙ possible

counted_comes : CountsAreRead → (end : CountedEnd) (count : Count) (line : List ℕ) (lines : Lines)
    → IsBetween end → IsCount count → count.lines ≡ suc (length lines)
    → is_possible end.counts count.read ≡ true
    → AllByRecursion (λ l. count_line l ≡ None) (line ∷ lines)
    → Comes end (line_text (count_parts count) ∷ line ∷ lines) (line ∷ lines) count.mark
counted_comes reads end count line lines between is few possible texts =
    let front = line_text (count_parts count) in
    let may = begins end count between possible in
    let quiet : heard_line front end ≡ Nothing =
    ap (λ c. heard_as c front end) (reads count is)
    ∙ ap (λ b. if b then Nothing else Fault Parameters) may in
    let after : after_line front end ≡ begun count end =
    ap (λ c. after_as c front end) (reads count is)
    ∙ ap (λ b. if b then begun count end else end) may in
    let more = rest_comes line lines (begun count end) few texts in
    record {
      heard =
          ap (λ h. pieces_in (h ∷ all_heard (line ∷ lines) (after_line front end))) quiet
          ∙ ap (λ e. pieces_in (all_heard (line ∷ lines) e)) after ∙ more.heard
          ∙ ap (λ ls. Some (record { lines = ls ++ line ∷ lines; mark = count.mark } ∷ []))
          between.lines;
      between = subst (λ e. IsBetween (after_all (line ∷ lines) e)) (sym after) more.between;
    }

-- ---- with a count or without one

-- what has no count is one line, and says no more
plain_comes : (end : CountedEnd) (told : Bool) (line : List ℕ) (lines : Lines) (mark : Option Mark)
    → (told && nat_eq (length (line ∷ lines)) 1) && not (is_some mark) ≡ true → IsBetween end
    → AllByRecursion (λ l. count_line l ≡ None) (line ∷ lines)
    → Comes end (line ∷ lines) (line ∷ lines) mark
plain_comes end told line [] None plain between texts = alone_comes end line between texts.0
plain_comes end told line [] (Some mark) plain between texts =
    absurd (false≢true (second_so (told && nat_eq 1 1) false plain))
plain_comes end told line (next ∷ lines) mark plain between texts =
    absurd (too_many (second_so told (nat_eq (length (line ∷ next ∷ lines)) 1)
    (first_so (told && nat_eq (length (line ∷ next ∷ lines)) 1) (not (is_some mark)) plain)))
  where
    too_many : nat_eq (length (line ∷ next ∷ lines)) 1 ≡ true → ⊥
    too_many e = grind (arith, nat_tests)

pub comes_whole : CountsAreRead → (writer reader : CountedEnd) (lines : Lines) (mark : Option Mark)
    → MayBePiece lines → IsBetween reader → writer.counts.read ≤ 18446744073709551615
    → is_possible reader.counts writer.counts.read ≡ true → IsHeardWhole writer reader lines mark
comes_whole reads writer reader [] mark is between most possible = absurd (is.some refl)
comes_whole reads writer reader (line ∷ lines) mark is between most possible =
    let comes = by_count (is_plain (length (line ∷ lines)) mark writer.counts) refl in
    record { heard = comes.heard; between = comes.between }
  where
    count : Count
    count = count_now (length (line ∷ lines)) mark writer.counts

    has_some : (mark : Option Mark) → not (is_some mark) || nat_lt 0 (length (line ∷ lines)) ≡ true
    has_some None = refl
    has_some (Some m) = grind (arith, nat_tests)

    few_lines : nat_le (length (line ∷ lines)) 16 ≡ true
    few_lines = let few = is.few in grind (arith, nat_tests)

    is_count : IsCount count
    is_count = record {
      read = most;
      lines = let few = is.few in omega (arith, few);
      may = ap (λ b. b && (not (is_some mark) || nat_lt 0 (length (line ∷ lines)))) few_lines
          ∙ has_some mark;
    }

    by_count : (plain : Bool) → is_plain (length (line ∷ lines)) mark writer.counts ≡ plain
        → Comes reader (lines_of_count (if plain then None else Some count) ++ line ∷ lines)
        (line ∷ lines) mark
    by_count true plain = plain_comes reader (nat_eq writer.counts.told writer.counts.read) line
        lines mark plain between is.texts
    by_count false plain =
        counted_comes reads reader count line lines between is_count refl possible is.texts
