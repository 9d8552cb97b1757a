-- The world without a link: the hall of each server, and the lines of each client.
use Rattle.std.proofs.Common.{◌≡◌, inl, inr, ℕ, Option, None, List, ◌++◌, append-nil, sym, ◌∙◌, ap}
use Rattle.std.specs.FinMap.{get}
use Rattle.irc_relay.specs.Links.{Name, Link, AreJoined, HasEnds}
use Rattle.irc_stage.specs.declared.clients.Client.{Client}
use Rattle.irc_world.specs.Stepping.{leaving_lines, parted, remaining}
use Rattle.irc_world.specs.World.{Setting, World}
use Rattle.irc_items.proofs.Common.Ends.{both_ends, chosen_aside, chosen_at}

module _ (settings : List Setting) (world : World) (left : List Link) (l : Link)
    (apart : AreJoined left l.near l.far → ⊥) where
  abbrev now : World
  now = (parted settings world left l.near l.far).state

  abbrev turned : Link
  turned = record { near = l.far; far = l.near }

  turned_ends : (e o : Name) → HasEnds l e o → HasEnds turned e o
  turned_ends e o (inl (n, f)) = inr (f, n)
  turned_ends e o (inr (n, f)) = inl (f, n)

  back_ends : (e o : Name) → HasEnds turned e o → HasEnds l e o
  back_ends e o (inl (n, f)) = inr (f, n)
  back_ends e o (inr (n, f)) = inl (f, n)

  pub hall_at : (t e o : Name) → HasEnds l e o → AreJoined left t e
      → now.hall t ≡ remaining settings world left e o
  hall_at t e o ends on =
      chosen_at turned left (λ on. apart (sym on)) (λ a b. remaining settings world left a b)
      (world.hall t) t e o (turned_ends e o ends) on

  pub hall_aside : (t : Name) → ((e o : Name) → HasEnds l e o → AreJoined left t e → ⊥)
      → now.hall t ≡ world.hall t
  hall_aside t none =
      chosen_aside turned left t (λ a b. remaining settings world left a b) (world.hall t)
      (λ e o ends on. none e o (back_ends e o ends) on)

  -- ---- the lines of a client, by what becomes of it on each side

  abbrev lines_of : Name → Name → Option Client → List (List ℕ)
  lines_of a b o = leaving_lines settings left a b (world.hall a).room o

  abbrev in_hall : ℕ → Name → Name → Option Client
  in_hall client a b = get (remaining settings world left a b).clients client

  pub lines_at : (client : ℕ) (e o : Name) → HasEnds l e o → in_hall client o e ≡ None
      → (parted settings world left l.near l.far).out client ≡ lines_of e o (in_hall client e o)
  lines_at client = both_ends l (λ e o. in_hall client o e ≡ None
      → (parted settings world left l.near l.far).out client ≡ lines_of e o (in_hall client e o))
      (λ none. ap (λ c. lines_of l.near l.far (in_hall client l.near l.far)
      ++ lines_of l.far l.near c) none
      ∙ append-nil (lines_of l.near l.far (in_hall client l.near l.far)))
      (λ none. ap (λ c. lines_of l.near l.far c
      ++ lines_of l.far l.near (in_hall client l.far l.near)) none)
