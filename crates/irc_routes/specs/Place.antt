-- What a decision may know of the server that makes it.
use Rattle.std.specs.Prelude.{ℕ, Option, List, [], ◌∷◌, map, nat_eq}
use Rattle.std.specs.Cmp.Lexicographic.{pointwise}
use Rattle.std.specs.List.{find}
use Rattle.irc_names.specs.Names.{IsServer}
use Rattle.irc_routes.specs.About.{About, IsAbout, about_of}
use Rattle.irc_routes.specs.declared.own.Own.{Own}

-- a server of the same network: how it describes itself, and how many links away it is
pub record KnownServer : Type 0 where
  pub name : List ℕ
  pub info : List ℕ
  pub distance : ℕ

-- the server itself, what it says of itself, how many links it has, and all servers that it is
-- joined to, itself too, in order of name
pub record Place : Type 0 where
  pub name : List ℕ
  pub about : About
  pub links : ℕ
  pub servers : List KnownServer

-- a server that is linked to none
abbrev pub alone : List ℕ → About → Place
alone name about = record {
  name = name;
  about = about;
  links = 0;
  servers = (record { name = name; info = about.info; distance = 0 }) ∷ [];
}

-- the names of all its servers, in order
abbrev pub names_known : Place → List (List ℕ)
names_known place = map (λ (server : KnownServer). server.name) place.servers

-- the server of a name, compared byte by byte
abbrev pub server_named : Place → List ℕ → Option KnownServer
server_named place name = find (λ server. pointwise nat_eq server.name name) place.servers

-- the limits that a configuration keeps
pub record KeepsLimits (own : Own) : Type 0 where
  pub name : IsServer own.name.items
  pub about : IsAbout (about_of own)
