-- The framer's steps over one piece, by how many of its bytes were taken.
use Rattle.std.proofs.Common.{◌≡◌, ℕ, ◌+◌, ◌-◌, ◌≤◌, ◌<◌, Bool, true, false, List, [], ◌∷◌, ◌++◌}
use Rattle.std.proofs.Common.{length, take, drop, get_or, refl, sym, inl, inr, ◌∙◌, ap, subst}
use Rattle.std.proofs.Common.{append_assoc, arith}
use Rattle.std.specs.Prelude.{option_to_list}
use Rattle.std.specs.List.{list_any}
use Rattle.std.proofs.lemmas.List.{take-take, take_more}
use Rattle.std.proofs.Math.Seq.{take-add}
use Rattle.std.proofs.lemmas.Bool.{cases_lt}
use Rattle.irc_line.specs.Bytes.{is_line_end}
use Rattle.irc_line.specs.Lines.{lines, Begun, Takes, EndsNoLine, nothing_begun}
use Rattle.irc_line.specs.Loops.Framing.{HasEnded, IsReady, TakesRun, TakesInto, line_begun, go_on}
use Rattle.irc_line.proofs.Streams.{new_has_taken, takes_run, takes_end, takes_append, ends_no_line}
use Rattle.irc_line.proofs.Streams.{fewer_end_no_line, list_any-take}

pub run_takes : (old new : Begun) (bytes : List ℕ) (n : ℕ) → list_any is_line_end (take n bytes)
    ≡ false → new ≡ go_on old (take n bytes) → Takes old (take n bytes) [] new
run_takes old new bytes n none is = subst (λ (f : Begun). Takes old (take n bytes) [] f) (sym is)
    (takes_run old (take n bytes) none)

pub run_ends_no_line : (old : Begun) (bytes : List ℕ) (n k : ℕ)
    → list_any is_line_end (take n bytes) ≡ false → k ≤ n → EndsNoLine old (take k bytes)
run_ends_no_line old bytes n k none within =
    let shorter : list_any is_line_end (take k bytes) ≡ false =
    ap (list_any is_line_end) (sym (take-take k n bytes within))
    ∙ list_any-take is_line_end k (take n bytes) none in
    ends_no_line old (go_on old (take k bytes)) (take k bytes)
    (takes_run old (take k bytes) shorter)

run_and_end : (old mid : Begun) (bytes : List ℕ) (n : ℕ) → n < length bytes → list_any is_line_end
    (take n bytes) ≡ false → is_line_end (get_or bytes n 0) ≡ true → mid ≡ go_on old (take n bytes)
    → Takes old (take (n + 1) bytes) (option_to_list (line_begun mid)) nothing_begun
run_and_end old mid bytes n within none ends mid_is =
    subst (λ (taken : List ℕ). Takes old taken (option_to_list (line_begun mid)) nothing_begun)
    (sym (take_more bytes n 0 within))
    (takes_append old mid nothing_begun (take n bytes) (get_or bytes n 0 ∷ []) []
    (option_to_list (line_begun mid))
    (run_takes old mid bytes n none mid_is) (takes_end mid (get_or bytes n 0) ends))

takes_if_ended : (old mid new : Begun) (bytes : List ℕ) (ended : Bool)
    → Takes old bytes (option_to_list (line_begun mid)) nothing_begun → HasEnded mid ended new
    → TakesRun old bytes ended new
takes_if_ended old mid new bytes true takes (same, ready) = (
  subst (λ (found : List (List ℕ)). Takes old bytes found nothing_begun)
      (ap option_to_list ready ∙ ap (λ (f : Begun). f.kept ∷ []) (sym same)) takes,
  subst IsReady (sym same) ready,
)
takes_if_ended old mid new bytes false takes (anew, none) =
    subst (λ (f : Begun). Takes old bytes [] f) (sym anew) (subst (λ (found : List
    (List ℕ)). Takes old bytes found nothing_begun) (ap option_to_list none) takes)

-- a run, and the line end behind it
pub end_takes : (old mid new : Begun) (bytes : List ℕ) (n : ℕ) (ended : Bool) → n < length bytes
    → list_any is_line_end (take n bytes) ≡ false → is_line_end (get_or bytes n 0) ≡ true
    → mid ≡ go_on old (take n bytes) → HasEnded mid ended new
    → TakesRun old (take (n + 1) bytes) ended new
end_takes old mid new bytes n ended within none ends mid_is has_ended =
    takes_if_ended old mid new (take (n + 1) bytes) ended
    (run_and_end old mid bytes n within none ends mid_is) has_ended

-- two steps, of which the first found no line
pub both_take : (old mid new : Begun) (piece rest : List ℕ) (used more : ℕ) (found : List (List ℕ))
    → rest ≡ drop used piece → Takes old (take used piece) [] mid
    → Takes mid (take more rest) found new → Takes old (take (used + more) piece) found new
both_take old mid new piece rest used more found rest_is first second =
    let at_rest = subst (λ (bs : List ℕ). Takes mid (take more bs) found new) rest_is second in
    subst (λ (taken : List ℕ). Takes old taken found new) (sym (take-add used more piece))
    (takes_append old mid new (take used piece)
    (take more (drop used piece)) [] found first at_rest)

pub both_take_none : (old mid new : Begun) (piece rest : List ℕ) (used more : ℕ) (ended : Bool)
    → ended ≡ false → rest ≡ drop used piece → Takes old (take used piece) [] mid
    → TakesRun mid (take more rest) ended new → Takes old (take (used + more) piece) [] new
both_take_none old mid new piece rest used more ended none rest_is first second =
    both_take old mid new piece rest used more [] rest_is first
    (subst (λ b. TakesRun mid (take more rest) b new) none second)

pub is_ready : (old new framer : Begun) (bytes : List ℕ) (ended : Bool) → framer ≡ new
    → ended ≡ true → TakesRun old bytes ended new → IsReady framer
is_ready old new framer bytes true same some takes = subst IsReady (sym same) (takes.1)
is_ready old new framer bytes false same some takes = cc some

-- two steps, of which the second found the line that is given
pub both_take_line : (old mid kept new : Begun) (piece rest line : List ℕ) (used more : ℕ)
    (ended : Bool) → ended ≡ true → rest ≡ drop used piece → Takes old (take used piece) [] mid
    → TakesRun mid (take more rest) ended kept → line ≡ kept.kept → new ≡ nothing_begun
    → Takes old (take (used + more) piece) (line ∷ []) new
both_take_line old mid kept new piece rest line used more ended some rest_is first second line_is
    new_is =
    let all = both_take old mid nothing_begun piece rest used more (kept.kept ∷ []) rest_is first
    ((subst (λ b. TakesRun mid (take more rest) b kept) some second).0) in
    subst (λ (f : Begun). Takes old (take (used + more) piece) (line ∷ []) f) (sym new_is)
    (subst (λ l. Takes old (take (used + more) piece) (l ∷ []) nothing_begun) (sym line_is) all)

both_end_no_line : (old mid : Begun) (xs ys : List ℕ) → Takes old xs [] mid → EndsNoLine mid ys
    → EndsNoLine old (xs ++ ys)
both_end_no_line old mid xs ys first second = λ stream taken.
    ap lines (sym (append_assoc stream xs ys)) ∙ second (stream ++ xs) (first.framer stream taken)
    ∙ ends_no_line old mid xs first stream taken

pub taken_ends_no_line : (old mid : Begun) (piece : List ℕ) (used k : ℕ)
    → Takes old (take used piece) [] mid → k ≤ used → EndsNoLine old (take k piece)
taken_ends_no_line old mid piece used k first within =
    let all = ends_no_line old mid (take used piece) first in
    let rest : take used piece ≡ take k piece ++ take (used - k) (drop k piece) =
    ap (λ n. take n piece) (omega arith) ∙ take-add k (used - k) piece in
    fewer_end_no_line old (take k piece) (take (used - k) (drop k piece))
    (subst (λ (bs : List ℕ). EndsNoLine old bs) rest all)

pub below_both : (old mid : Begun) (piece rest : List ℕ) (used more : ℕ) → rest ≡ drop used piece
    → Takes old (take used piece) [] mid → ((j : ℕ) → j < more → EndsNoLine mid (take j rest))
    → (k : ℕ) → k < used + more → EndsNoLine old (take k piece)
below_both old mid piece rest used more rest_is first second k below =
    elim (cases_lt k used) [
      | inl earlier ↦ taken_ends_no_line old mid piece used k first (omega arith)
      | inr later ↦
          let same : take k piece ≡ take used piece ++ take (k - used) rest =
          ap (λ n. take n piece) (omega arith) ∙ take-add used (k - used) piece
          ∙ ap (λ bs. take used piece ++ take (k - used) bs) (sym rest_is) in
          subst (λ (bs : List ℕ). EndsNoLine old bs) (sym same)
          (both_end_no_line old mid (take used piece) (take (k - used) rest) first
          (second (k - used) (omega arith)))
    ]

-- Lines that are put into a list.

pub no_lines : lines [] ≡ []
unfolding lines
no_lines = refl

pub all_lines : (framer : Begun) (bytes : List ℕ) (after : List (List ℕ))
    → TakesInto nothing_begun bytes [] framer after → after ≡ lines bytes
all_lines framer bytes after into =
    into.after_is ∙ ap (λ ls. ls ++ into.found) (sym no_lines)
    ∙ sym (into.takes.lines_found [] new_has_taken)
