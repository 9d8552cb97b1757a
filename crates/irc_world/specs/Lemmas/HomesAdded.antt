-- A client more has its home, and a network with one home more is sound as it was.
use Rattle.std.proofs.Common.{◌≡◌, ℕ, zero, suc, true, Some, List, [], ◌∷◌, ◌++◌, ◌⊎◌, ⊎_elim, inl}
use Rattle.std.proofs.Common.{inr, length, refl, subst}
use Rattle.std.specs.List.{slice_get}
use Rattle.std.proofs.lemmas.Option.{same_Some}
use Rattle.irc_relay.specs.Links.{Name, Link, joined}
use Rattle.irc_world.specs.World.{Setting, World, is_server, home_in}
use Rattle.irc_world.specs.Sound.{HasHomeBy, IsSound}

pub still_home : (homes : List Name) (new : Name) (earlier : ℕ) (home : Name)
    → slice_get homes earlier ≡ Some home → slice_get (homes ++ new ∷ []) earlier ≡ Some home
still_home [] new earlier home is = absurd (cc is)
still_home (first ∷ homes) new zero home is = is
still_home (first ∷ homes) new (suc earlier) home is = still_home homes new earlier home is

pub new_home : (homes : List Name) (new : Name)
    → slice_get (homes ++ new ∷ []) (length homes) ≡ Some new
new_home [] new = refl
new_home (first ∷ homes) new = new_home homes new

one_more : (homes : List Name) (new : Name) (earlier : ℕ) (home : Name) → slice_get
    (homes ++ new ∷ []) earlier ≡ Some home → (slice_get homes earlier ≡ Some home) ⊎ (new ≡ home)
one_more [] new zero home is = inr (same_Some new home is)
one_more [] new (suc earlier) home is = absurd (cc is)
one_more (first ∷ homes) new zero home is = inl is
one_more (first ∷ homes) new (suc earlier) home is = one_more homes new earlier home is

at_home_still : (links : List Link) (homes : List Name) (new : Name) (client : ℕ) (server : Name)
    → HasHomeBy links homes client server → HasHomeBy links (homes ++ new ∷ []) client server
at_home_still links homes new zero server at_home = absurd (let none = at_home.is_home in cc none)
at_home_still links homes new (suc earlier) server at_home = record {
  home = at_home.home;
  is_home = still_home homes new earlier at_home.home at_home.is_home;
  joined = at_home.joined;
}

pub more_sound : (settings : List Setting) (world : World) (new : Name)
    → IsSound settings world → is_server settings new ≡ true
    → IsSound settings (record world { homes = world.homes ++ new ∷ [] })
more_sound settings world new sound known = record {
  forest = sound.forest;
  one_hall = sound.one_hall;
  well_formed = sound.well_formed;
  clients_home = λ server client there. at_home_still world.links world.homes new client server
      (sound.clients_home server client there);
  homes_known = by;
  ends_known = sound.ends_known;
}
  where
    by : (client : ℕ) (home : Name) → home_in (world.homes ++ new ∷ []) client ≡ Some home
        → is_server settings home ≡ true
    by zero home is = absurd (cc is)
    by (suc earlier) home is = ⊎_elim (λ (old : slice_get world.homes earlier ≡ Some home).
        sound.homes_known (suc earlier) home old)
        (λ (is_new : new ≡ home). subst (λ h. is_server settings h ≡ true) is_new known)
        (one_more world.homes new earlier home is)
