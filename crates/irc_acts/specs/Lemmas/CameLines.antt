-- Names or channels that come one after another, and lines that are sent when they are full.
use Rattle.std.proofs.Common.{◌≡◌, ℕ, ◌+◌, ◌<◌, ◌≤◌, zero, suc, false, eqb, Option, List, [], ◌∷◌}
use Rattle.std.proofs.Common.{◌++◌, length, map, take, get_or, sym, ◌∙◌, ap, arith, append_assoc}
use Rattle.std.proofs.Common.{append-nil}
use Rattle.std.proofs.lemmas.List.{map_more}
use Rattle.std.proofs.lemmas.List.Elements.{filter_map-append}
use Rattle.std.specs.List.{filter_map}
use Rattle.irc_acts.specs.declared.act.Act.{Act}
use Rattle.irc_acts.specs.Loops.FilledLines.{lines_of, Came}
use Rattle.irc_acts.specs.Lemmas.NameChunks.{full_first, no_line, last_line}

not_zero : (n : ℕ) → eqb n 0 ≡ false → 0 < n
not_zero zero some = cc some
not_zero (suc n) some = omega arith

module _ {X : Type 0} (size : ℕ) (line : List X → Act) where
  -- some, and then others
  pub more_came : (before middle after : List Act) (held between left items more : List X)
      → Came size line before held items middle between
      → Came size line middle between more after left
      → Came size line before held (items ++ more) after left
  more_came before middle after held between left items more first then = record {
    lines = λ later.
        ap (λ xs. before ++ lines_of size line (held ++ xs)) (append_assoc items more later)
        ∙ first.lines (more ++ later)
        ∙ then.lines later;
  }

  -- none came
  pub none_came : (before after : List Act) (held left : List X) → after ≡ before → left ≡ held
      → Came size line before held [] after left
  none_came before after held left same is = record {
    lines = λ later. ap (λ xs. before ++ lines_of size line (xs ++ later)) (sym is)
        ∙ ap (λ s. s ++ lines_of size line (left ++ later)) (sym same);
  }

  -- one for which there is room
  pub one_came : (before after : List Act) (held left : List X) (item : X) → after ≡ before
      → left ≡ held ++ item ∷ [] → Came size line before held (item ∷ []) after left
  one_came before after held left item same is = record {
    lines = λ later.
        ap (λ xs. before ++ lines_of size line xs) (sym (append_assoc held (item ∷ []) later)
        ∙ ap (λ l. l ++ later) (sym is))
        ∙ ap (λ s. s ++ lines_of size line (left ++ later)) (sym same);
  }

  -- one that comes when the line is full
  pub one_came_later : 0 < size → (before after : List Act) (held empty left : List X) (item : X)
      → length held ≡ size → after ≡ before ++ line held ∷ [] → empty ≡ []
      → left ≡ empty ++ item ∷ [] → Came size line before held (item ∷ []) after left
  one_came_later some before after held empty left item full sent none is = record {
    lines = λ later.
        ap (λ ls. before ++ map line ls) (full_first size held (item ∷ later) full some)
        ∙ sym (append_assoc before (line held ∷ []) (lines_of size line (item ∷ later)))
        ∙ ap (λ s. s ++ lines_of size line (item ∷ later)) (sym sent)
        ∙ ap (λ xs. after ++ lines_of size line (xs ++ later))
        (sym (is ∙ ap (λ e. e ++ item ∷ []) none));
  }

  -- the last line
  pub nothing_held : (steps : List Act) (held : List X) → length held ≡ 0
      → steps ≡ steps ++ lines_of size line held
  nothing_held steps held none =
      sym (ap (λ ls. steps ++ map line ls) (no_line size held none) ∙ append-nil steps)

  pub last_held : (steps : List Act) (held : List X) → eqb (length held) 0 ≡ false
      → length held ≤ size → steps ++ line held ∷ [] ≡ steps ++ lines_of size line held
  last_held steps held some fits =
      sym (ap (λ ls. steps ++ map line ls) (last_line size held (not_zero (length held) some) fits))

  -- all that came since nothing was held
  pub all_came : (before after done : List Act) (none items left : List X) → none ≡ []
      → Came size line before none items after left → done ≡ after ++ lines_of size line left
      → done ≡ before ++ lines_of size line items
  all_came before after done none items left empty came sent =
      sent
      ∙ ap (λ xs. after ++ lines_of size line xs) (sym (append-nil left))
      ∙ sym (came.lines [])
      ∙ ap (λ xs. before ++ lines_of size line (xs ++ (items ++ []))) empty
      ∙ ap (λ xs. before ++ lines_of size line xs) (append-nil items)

-- what some rows give, and what the next gives
pub rows_more : {A B X : Type 0} (give : B → Option X) (view : A → B)
    (rows : List A) (i : ℕ) (row : A) → i < length rows → row ≡ get_or rows i row
    → filter_map give (map view (take (i + 1) rows)) ≡ filter_map give (map view (take i rows))
    ++ filter_map give (view row ∷ [])
rows_more {A = A} give view rows i row within is =
    ap (filter_map give) (map_more view rows i row within)
    ∙ filter_map-append give (map view (take i rows)) (view (get_or rows i row) ∷ [])
    ∙ ap (λ (r : A). filter_map give (map view (take i rows)) ++ filter_map give (view r ∷ []))
    (sym is)
