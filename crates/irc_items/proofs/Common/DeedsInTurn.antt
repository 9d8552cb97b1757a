-- A side through deeds, one after another: where it comes to, and what a client sees of that.
use Rattle.std.proofs.Common.{◌≡◌, ℕ, List, [], ◌∷◌, ◌++◌, refl, sym, ◌∙◌, ap, append_assoc}
use Rattle.irc_merge.specs.Deeds.{Deed}
use Rattle.irc_relay.specs.Following.{all_done, all_seen}
use Rattle.irc_relay.specs.Links.{Name}
use Rattle.irc_follow.specs.SideState.{ItemSetting, SideState, done, shown_at}
use Rattle.irc_follow.specs.Says.{play}

module _ (s : ItemSetting) (client : ℕ) where
  -- whoever looks on, a side comes to the same
  pub same_done : (deeds : List Deed) (w : SideState)
      → all_done (play s client) w deeds ≡ all_done (play s 0) w deeds
  same_done [] w = refl
  same_done (deed ∷ deeds) w = same_done deeds (done s w deed)

  pub done_in_turn : (first later : List Deed) (w : SideState) → all_done (play s client) w
      (first ++ later) ≡ all_done (play s client) (all_done (play s client) w first) later
  done_in_turn [] later w = refl
  done_in_turn (deed ∷ first) later w = done_in_turn first later (done s w deed)

  pub seen_in_turn : (t : Name) (first later : List Deed) (w : SideState)
      → all_seen (play s client) t w (first ++ later)
      ≡ all_seen (play s client) t w first ++ all_seen (play s client) t
      (all_done (play s client) w first) later
  seen_in_turn t [] later w = refl
  seen_in_turn t (deed ∷ first) later w =
      ap (λ lines. shown_at s client t w deed ++ lines) (seen_in_turn t first later (done s w deed))
      ∙ sym (append_assoc (shown_at s client t w deed)
      (all_seen (play s client) t (done s w deed) first)
      (all_seen (play s client) t (all_done (play s client) (done s w deed) first) later))
