-- What holds of all that comes by a link.
use Rattle.std.specs.Prelude.{◌≡◌, ℕ, Bool, false, nat_eq, Some, List, ◌++◌}
use Rattle.std.specs.List.{list_any}
use Rattle.irc_batch.specs.Batches.{Sent, line_to, end_of, line_on, end_of_link}
use Rattle.irc_merge.specs.Deeds.{Deed}
use Rattle.irc_stage.specs.EffectTold.{Served}
use Rattle.irc_server.specs.DeedTold.{deed_told, deeds_told}

-- whether this goes on a link
abbrev pub goes_on : ℕ → Sent → Bool
goes_on link (line_to conn line) = false
goes_on link (end_of conn) = false
goes_on link (line_on number line) = nat_eq number link
goes_on link (end_of_link number reason) = nat_eq number link

-- what is put out behind this much, none of it on a link
pub record PutsOutElsewhere (link : ℕ) (before after : List Sent) : Type 0 where
  pub more : List Sent
  pub behind : after ≡ before ++ more
  pub elsewhere : list_any (goes_on link) more ≡ false

-- A deed that came by a link never goes back on it.
abbrev pub NeverBack : Type 0
NeverBack = (link : ℕ) (deed : Deed) (s : Served)
    → PutsOutElsewhere link s.out (deed_told (Some link) deed s).out

-- nor do deeds one after another
abbrev pub NeverBackOfAll : Type 0
NeverBackOfAll = (link : ℕ) (deeds : List Deed) (s : Served)
    → PutsOutElsewhere link s.out (deeds_told (Some link) deeds s).out
