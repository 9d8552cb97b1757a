-- One hall for all servers that are joined.
use Rattle.std.proofs.Common.{◌≡◌, refl, sym, ◌∙◌, subst, if◌then◌else◌}
use Rattle.irc_relay.specs.Links.{Name, part, joined, AreJoined}
use Rattle.irc_relay.specs.Lemmas.TellingNames.{Telling, alike, unlike, tell}
use Rattle.irc_world.specs.World.{Hall, World, with_hall}

-- what holds of the hall that a part is given, and of the other halls
pub hall_with : (P : Hall → Type 0) (server other : Name) (hall : Hall) (world : World)
    → (AreJoined world.links other server → P hall) → ((AreJoined world.links other server → ⊥)
    → P (world.hall other)) → P ((with_hall server hall world).hall other)
hall_with P server other hall world here elsewhere =
    by (tell (part world.links other) (part world.links server))
  where
    by : Telling (part world.links other) (part world.links server)
        → P (if joined world.links other server then hall else world.hall other)
    by (alike is one) = subst (λ b. P (if b then hall else world.hall other)) (sym is) (here one)
    by (unlike is two) =
        subst (λ b. P (if b then hall else world.hall other)) (sym is) (elsewhere two)

pub one_hall_with : (server : Name) (hall : Hall) (world : World)
    → ((s t : Name) → AreJoined world.links s t → (AreJoined world.links s server → ⊥)
    → world.hall s ≡ world.hall t) → (s t : Name) → AreJoined world.links s t
    → (with_hall server hall world).hall s ≡ (with_hall server hall world).hall t
one_hall_with server hall world elsewhere s t one =
    hall_with (λ h. h ≡ (with_hall server hall world).hall t) server s hall world
    (λ here. hall_with (λ h. hall ≡ h) server t hall world (λ _. refl)
    (λ apart. absurd (apart (sym one ∙ here))))
    (λ apart. hall_with (λ h. world.hall s ≡ h) server t hall world
    (λ there. absurd (apart (one ∙ there))) (λ _. elsewhere s t one apart))
