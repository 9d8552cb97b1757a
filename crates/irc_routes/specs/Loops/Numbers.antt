-- Which of our own numbers stand for servers, as the code notes it.
use Rattle.std.specs.Prelude.{◌≡◌, ℕ, ◌≤◌, Bool, ◌||◌, false, List, get_or, nat_eq}
use Rattle.irc_routes.specs.Known.{ServerRow, is_used_in}
use Rattle.irc_routes.specs.Limits.{max_servers}

-- what is noted of each number is whether it stands for one of the servers
abbrev pub TellsUsed : List ServerRow → List Bool → Type 0
TellsUsed rows used = (n : ℕ) → n ≤ max_servers → get_or used n false ≡ is_used_in rows n

-- a number is noted, beside those that were noted before
abbrev pub IsNoted : ℕ → List Bool → List Bool → Type 0
IsNoted number old now =
    (n : ℕ) → n ≤ max_servers → get_or now n false ≡ (nat_eq number n || get_or old n false)
