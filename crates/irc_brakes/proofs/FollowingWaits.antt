-- A chain of waits is a walk that never goes straight back.
use Rattle.std.proofs.Common.{◌≡◌, ◌<◌, suc, List, [], ◌∷◌, length, map, refl, sym, ap, subst}
use Rattle.std.proofs.Common.{◌∙◌}
use Rattle.irc_relay.specs.Links.{Name, Link, AreLinked, IsWalk, NeverGoesBack}
use Rattle.irc_relay.specs.Laws.{NoWalkRound, WalkIsTheWay, WalksJoin}
use Rattle.irc_relay.specs.Distances.{size_of_part}
use Rattle.irc_relay.specs.Lemmas.ShortWays.{ways_are_short}
use Rattle.irc_brakes.specs.Waiting.{Direction, IsChain}
use Rattle.irc_brakes.specs.Laws.{WaitsGoAway, NoWaitRound, WaitsAreShort}

abbrev readers : List Direction → List Name
readers chain = map (λ one. one.reader) chain

same_length : (chain : List Direction) → length (readers chain) ≡ length chain
same_length [] = refl
same_length (one ∷ chain) = ap suc (same_length chain)

-- from the first reader, by the readers of the others
walks : (links : List Link) (full : Name → List Name) (one : Direction) (chain : List Direction)
    (last : Direction) → IsChain links full one chain last
    → IsWalk links one.reader (readers chain) last.reader
walks links full one [] last e = ap (λ way. way.reader) e
walks links full one (next ∷ chain) last waits = (
  subst (λ s. AreLinked links s next.reader) (sym waits.0.here) waits.0.linked_on,
  walks links full next chain last waits.1,
)

never_back : (links : List Link) (full : Name → List Name) (one : Direction)
    (chain : List Direction) (last : Direction) → IsChain links full one chain last
    → NeverGoesBack one.writer (one.reader ∷ readers chain)
never_back links full one [] last e = (tt, tt)
never_back links full one (next ∷ chain) last waits = (
  λ e. waits.0.onward (sym e),
  subst (λ s. NeverGoesBack s (next.reader ∷ readers chain)) (sym waits.0.here)
      (never_back links full next chain last waits.1),
)

pub waits_go_away : WalkIsTheWay → WaitsGoAway
waits_go_away is_the_way links full one chain last forest linked waits =
    sym (is_the_way links one.writer (one.reader ∷ readers chain) last.reader forest
    (linked, walks links full one chain last waits)
    (never_back links full one chain last waits)).long
    ∙ ap suc (same_length chain)

pub no_wait_round : NoWalkRound → NoWaitRound
no_wait_round no_round links full one chain forest waits =
    none chain (no_round links one.reader (readers chain) forest
    (walks links full one chain one waits) (never_back links full one chain one waits).1)
  where
    none : (chain : List Direction) → readers chain ≡ [] → chain ≡ []
    none [] e = refl
    none (one ∷ chain) e = cc

pub waits_are_short : WalkIsTheWay → WalksJoin → WaitsAreShort
waits_are_short is_the_way join names links full one chain last forest among linked waits =
    subst (λ n. n < size_of_part names links one.writer)
    (waits_go_away is_the_way links full one chain last forest linked waits)
    (ways_are_short names links one.writer last.reader forest among
    (among one.writer one.reader linked)
    (join links one.writer (one.reader ∷ readers chain) last.reader
    (linked, walks links full one chain last waits)))
