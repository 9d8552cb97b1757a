-- Bytes behind those of a batch change none of its lines.
use Rattle.std.proofs.Common.{◌≡◌, ℕ, ◌≤◌, ◌-◌, ◌++◌, List, [], ◌∷◌, map, take, drop, length, refl}
use Rattle.std.proofs.Common.{◌∙◌, ap, arith}
use Rattle.std.proofs.lemmas.List.{take-append-le, drop-append-le, length-append}
use Rattle.std.proofs.Math.Seq.{drop-append_seam, take-length}
use Rattle.std.proofs.lemmas.List.{length-drop}
use Rattle.std.proofs.lemmas.List.Elements.{All-head, All-tail}
use Rattle.std.specs.List.{All, slice_range}
use Rattle.irc_batch.specs.Batches.{line_on, line_to}
use Rattle.irc_batch.specs.Loops.Marks.{bytes_at, sent_by, IsMark, IsSpan}
use Rattle.irc_batch.specs.declared.batch.OutMark.{OutMark}
use Rattle.irc_batch.specs.declared.batch.OutMark.TheVariants.{Line, Close, LinkLine, LinkClose}
use Rattle.irc_batch.specs.declared.batch.Span.{Span}

pub span_kept : (bytes more : List ℕ) (span : Span) → IsSpan (length bytes) span
    → bytes_at (bytes ++ more) span ≡ bytes_at bytes span
span_kept bytes more span within =
    let inside : span.start ≤ length bytes = omega (arith, within.forward, within.within_bytes) in
    let long : span.end - span.start ≤ length (drop span.start bytes) =
    omega (arith, within.forward, within.within_bytes, length-drop span.start bytes) in
    ap (take (span.end - span.start)) (drop-append-le span.start bytes more inside)
    ∙ take-append-le (span.end - span.start) (drop span.start bytes) more long

mark_kept : (bytes more : List ℕ) (mark : OutMark) → IsMark (length bytes) mark
    → sent_by (bytes ++ more) mark ≡ sent_by bytes mark
mark_kept bytes more (Line conn span) within = ap (line_to conn) (span_kept bytes more span within)
mark_kept bytes more (Close conn) within = refl
mark_kept bytes more (LinkLine link span) within =
    ap (line_on link) (span_kept bytes more span within)
mark_kept bytes more (LinkClose link reason) within = refl

pub marks_kept : (bytes more : List ℕ) (marks : List OutMark) → All (IsMark (length bytes)) marks
    → map (sent_by (bytes ++ more)) marks ≡ map (sent_by bytes) marks
marks_kept bytes more [] within = refl
marks_kept bytes more (mark ∷ marks) within =
    ap (λ sent. sent ∷ map (sent_by (bytes ++ more)) marks)
    (mark_kept bytes more mark (All-head (IsMark (length bytes)) mark marks within))
    ∙ ap (λ rest. sent_by bytes mark ∷ rest)
    (marks_kept bytes more marks (All-tail (IsMark (length bytes)) mark marks within))

-- what was put behind is read there
pub held_there : (bytes line : List ℕ) (end : ℕ) → end ≡ length (bytes ++ line)
    → slice_range (bytes ++ line) (length bytes) end ≡ line
held_there bytes line end is =
    let count : end - length bytes ≡ length line = omega (arith, is, length-append bytes line) in
    ap (λ n. take n (drop (length bytes) (bytes ++ line))) count
    ∙ ap (take (length line)) (drop-append_seam bytes line)
    ∙ take-length line
