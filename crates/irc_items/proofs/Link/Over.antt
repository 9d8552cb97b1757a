-- A new link as one of its ends sees it, whichever of them is called near.
use Rattle.std.proofs.Common.{◌≡◌, ◌≢◌, inl, inr, ◌+◌, suc, List, ◌∷◌, sym, ◌∙◌, ap, subst}
use Rattle.std.proofs.Common.{if◌then◌else◌}
use Rattle.irc_relay.specs.Lemmas.TellingNames.{Telling, alike, unlike, tell}
use Rattle.irc_relay.specs.Links.{Name, Link, same, toward, distance, AreJoined, HasEnds, IsForest}
use Rattle.irc_relay.specs.Links.{IsKept, IsMade}
use Rattle.irc_relay.specs.Relay.{Streams, streams_from, from_other_end, MeetOver}
use Rattle.irc_relay.specs.Lemmas.StreamsFlow.{ends_meet}
use Rattle.irc_relay.specs.Lemmas.LinkTakenOut.{made}

-- with the link between t and b: those of t's side come to those of b's over it, and lines come to
-- t's side from b
pub record IsOver (l : Link) (links : List Link) (streams : Streams) (t b : Name) : Type 0 where
  pub kept : (u v : Name) → AreJoined links u v → IsKept links (l ∷ links) u v
  pub apart : AreJoined links t b → ⊥
  pub joined : (u v : Name) → AreJoined links u t → AreJoined links b v → AreJoined (l ∷ links) u v
  pub over : (u v : Name) → AreJoined links u t → AreJoined links b v
      → toward (l ∷ links) u v ≡ (if same u t then b else toward links u t)
  pub back : (v u : Name) → AreJoined links v b → AreJoined links t u
      → toward (l ∷ links) v u ≡ (if same v b then t else toward links v b)
  pub far : (u v : Name) → AreJoined links u t → AreJoined links b v
      → distance (l ∷ links) u v ≡ suc (distance links u t + distance links b v)
  pub parent : streams.parent t ≡ b
  pub depth : streams.depth t ≡ 1
  pub later : (u : Name) → AreJoined links u t → u ≢ t → streams.parent u ≡ toward links u t

module _ (l : Link) (links : List Link) (forest : IsForest (l ∷ links)) where
  abbrev streams : Streams
  streams = streams_from (l ∷ links) (from_other_end links l.near l.far)

  is_made : IsMade l links
  is_made = made l links forest.1 forest.0

  meet : MeetOver l links streams
  meet = ends_meet l links forest

  over_near : IsOver l links streams l.near l.far
  over_near = record {
    kept = is_made.kept;
    apart = forest.0;
    joined = is_made.over_joined;
    over = is_made.over_toward;
    back = is_made.back_toward;
    far = is_made.over_distance;
    parent = meet.near_parent;
    depth = meet.near_depth;
    later = λ u j two. (meet.near_side u j two).0;
  }

  over_far : IsOver l links streams l.far l.near
  over_far = record {
    kept = is_made.kept;
    apart = λ j. forest.0 (sym j);
    joined = is_made.back_joined;
    over = is_made.back_toward;
    back = is_made.over_toward;
    far = is_made.back_distance;
    parent = meet.far_parent;
    depth = meet.far_depth;
    later = λ u j two. (meet.far_side u j two).0;
  }

  pub over_link : (t b : Name) → HasEnds l t b → IsOver l links streams t b
  over_link t b (inl (e, f)) = subst (λ x. IsOver l links streams x b) e
      (subst (λ x. IsOver l links streams l.near x) f over_near)
  over_link t b (inr (e, f)) = subst (λ x. IsOver l links streams x b) f
      (subst (λ x. IsOver l links streams l.far x) e over_far)

-- on this side the way to a server of b's side is that by which lines come
pub way_over : (l : Link) (links : List Link) (streams : Streams) (t b : Name)
    → IsOver l links streams t b → (x : Name) → AreJoined links x t → (v : Name)
    → AreJoined links b v → toward (l ∷ links) x v ≡ streams.parent x
way_over l links streams t b over x on v j = over.over x v on j ∙ by (tell x t)
  where
    by : Telling x t → (if same x t then b else toward links x t) ≡ streams.parent x
    by (alike z e) =
        ap (λ c. if c then b else toward links x t) z ∙ sym (ap streams.parent e ∙ over.parent)
    by (unlike z two) = ap (λ c. if c then b else toward links x t) z ∙ sym (over.later x on two)
