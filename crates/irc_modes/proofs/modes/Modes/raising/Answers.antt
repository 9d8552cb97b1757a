use Rattle.std.proofs.Common.{◌≡◌, ◌+◌, ◌<◌, ℕ, Bool, true, false, cond, List, [], ◌∷◌, ◌++◌}
use Rattle.std.proofs.Common.{length, get_or, drop, refl, sym, ◌∙◌, ap, append_assoc, append-nil}
use Rattle.std.proofs.lemmas.List.{drop_more, drop_all}
use Rattle.irc_modes.specs.declared.modes.Modes.{Modes}
use Rattle.irc_modes.specs.declared.modes.ModeChange.{ModeChange}
use Rattle.irc_modes.specs.Modes.{mode_step}
use Rattle.irc_modes.specs.Raised.{raises, raising, raise_step, raised_of}
use Rattle.irc_modes.proofs.modes.Modes.raising.Goals as goal

-- of changes first the first is judged
first_judged : (change : ModeChange) (changes : List ModeChange) (now : Modes)
    → raising (change ∷ changes) now ≡ raised_of change now
    ++ raising changes (raise_step now change)
first_judged change changes now = by (raises change.plus change.letter change.word now)
  where
    by : (test : Bool)
        → cond test (change ∷ raising changes (mode_step now change)) (raising changes now)
        ≡ cond test (change ∷ []) [] ++ raising changes (cond test (mode_step now change) now)
    by true = refl
    by false = refl

noted_more : (changes : List ModeChange) (i : ℕ) (change : ModeChange) (now after : Modes)
    (raised more : List ModeChange) → i < length changes
    → change ≡ get_or changes i change → after ≡ raise_step now change
    → more ≡ raised ++ raised_of change now
    → more ++ raising (drop (i + 1) changes) after ≡ raised ++ raising (drop i changes) now
noted_more changes i change now after raised more within is made noted =
    let rest = drop (i + 1) changes in
    (λ j. noted j ++ raising rest (made j))
    ∙ append_assoc raised (raised_of change now) (raising rest (raise_step now change))
    ∙ ap (λ left. raised ++ left) (sym (first_judged change rest now))
    ∙ ap (λ (left : List ModeChange). raised ++ raising left now)
    (ap (λ (c : ModeChange). c ∷ rest) is ∙ sym (drop_more changes i change within))

pub loop-change-preserved : goal.loop-change-preserved
loop-change-preserved c =
    noted_more c.args.changes.now c.loop-change.change-index c.change-item.result c.loop-change.now
    c.raise.new.now c.loop-change.raised.items
    c.raise.new.raised.items c.loop-change-test.true c.change-item.is c.in_ok-raise.ensures.made
    c.in_ok-raise.ensures.noted
    ∙ c.loop-change.invariant

pub returns : goal.returns
returns c =
    sym (append-nil c.loop-change.raised.items)
    ∙ ap (λ (left : List ModeChange). c.loop-change.raised.items ++ raising left c.loop-change.now)
    (sym (drop_all c.loop-change.change-index c.args.changes.now c.loop-change-test.false))
    ∙ c.loop-change.invariant
