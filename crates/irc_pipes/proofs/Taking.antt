-- Bytes that come part by part.
use Rattle.std.proofs.Common.{◌≡◌, ℕ, ◌+◌, ◌-◌, ◌≤◌, min, false, not, List, [], ◌∷◌}
use Rattle.std.proofs.Common.{◌++◌, drop, take, length, refl, sym, ◌∙◌, ap, arith, append-nil}
use Rattle.std.proofs.Common.{append_assoc, length-drop, take-add}
use Rattle.std.proofs.lemmas.List.{drop-drop, drop_min, take_min}
use Rattle.irc_line.specs.Laws.{AreTakenInTurn, PiecesCompleteTheSame}
use Rattle.irc_line.specs.Lines.{HasTaken, begun_behind, completed, stream_for}
use Rattle.irc_pipes.specs.Pipes.{LinkPipe, advanced, has_byte, is_none, lines_by}
use Rattle.irc_pipes.specs.Loops.Parts.{HasCome}

module _ (pieces : PiecesCompleteTheSame) (old : LinkPipe)
    (stream : HasTaken old.begun (stream_for old.begun)) where
  turns : (taken used : ℕ)
      → AreTakenInTurn old.begun (take taken old.bytes) (take used (drop taken old.bytes))
  turns taken used =
      (pieces old.begun stream).in_turn (take taken old.bytes) (take used (drop taken old.bytes))

  pub advanced_on : (taken used : ℕ)
      → advanced used (advanced taken old) ≡ advanced (taken + used) old
  advanced_on taken used = λ i. record {
    begun = (sym (turns taken used).begun
        ∙ ap (begun_behind old.begun) (sym (take-add taken used old.bytes))) i;
    bytes = drop-drop used taken old.bytes i;
  }

  pub lines_on : (taken used : ℕ)
      → lines_by taken old ++ lines_by used (advanced taken old) ≡ lines_by (taken + used) old
  lines_on taken used =
      sym (turns taken used).lines ∙ ap (completed old.begun) (sym (take-add taken used old.bytes))

  pub none_come : (count : ℕ) (lines : List (List ℕ)) → HasCome count 0 old old lines lines
  none_come count lines = record {
    within = omega arith;
    at_most = omega arith;
    new_is = λ i. record { begun = sym (pieces old.begun stream).none_begun i; bytes = old.bytes };
    after_is = sym (append-nil lines) ∙ ap (λ ls. lines ++ ls) (sym (pieces old.begun stream).none);
  }

  pub more_come : (count taken used : ℕ) (mid new : LinkPipe)
      (before between after found : List (List ℕ)) → HasCome count taken old mid before between
      → used ≤ count - taken → used ≤ length mid.bytes → new ≡ advanced used mid
      → found ≡ lines_by used mid → after ≡ between ++ found
      → HasCome count (taken + used) old new before after
  more_come count taken used mid new before between after found come within at_most new_is found_is
      after_is = record {
        within = let first = come.within in omega (arith, first, within);
        at_most =
            let first = come.at_most in
            let left =
            ap (λ (w : LinkPipe). length w.bytes) come.new_is ∙ length-drop taken old.bytes in
            omega (arith, first, left, at_most);
        new_is = new_is ∙ ap (advanced used) come.new_is ∙ advanced_on taken used;
        after_is =
            after_is ∙ ap (λ ls. ls ++ found) come.after_is
            ∙ append_assoc before (lines_by taken old) found
            ∙ ap (λ ls. before ++ (lines_by taken old ++ ls))
            (found_is ∙ ap (lines_by used) come.new_is)
            ∙ ap (λ ls. before ++ ls) (lines_on taken used);
      }

-- all have come that were to

no_byte : (bytes : List ℕ) → not (is_none bytes) ≡ false → length bytes ≡ 0
no_byte [] none = refl
no_byte (byte ∷ bytes) none = cc none

all_taken : (count taken all : ℕ) → taken ≤ count → taken ≤ all → all - taken ≡ 0
    → taken ≡ min count all
all_taken count taken all first second left = omega arith

module _ (count taken : ℕ) (old new : LinkPipe) (before after : List (List ℕ))
    (come : HasCome count taken old new before after) (none : has_byte new ≡ false) where
  pub all_come : taken ≡ min count (length old.bytes)
  all_come =
      all_taken count taken (length old.bytes) come.within come.at_most
      (sym (length-drop taken old.bytes) ∙ sym (ap (λ (w : LinkPipe). length w.bytes) come.new_is)
      ∙ no_byte new.bytes none)

  same_taken : take taken old.bytes ≡ take count old.bytes
  same_taken = ap (λ n. take n old.bytes) all_come ∙ take_min count old.bytes

  pub pipe_then : new ≡ advanced count old
  pipe_then = come.new_is ∙ (λ i. record {
    begun = begun_behind old.begun (same_taken i);
    bytes = (ap (λ n. drop n old.bytes) all_come ∙ drop_min count old.bytes) i;
  })

  pub lines_then : after ≡ before ++ lines_by count old
  lines_then = come.after_is ∙ ap (λ bytes. before ++ completed old.begun bytes) same_taken
