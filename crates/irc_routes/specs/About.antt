-- What a server says of itself beside its name, which a configuration gives and which stays, and
-- what it has beside the profile: the commands that programs expect, and links that tell who is away.
use Rattle.std.specs.Prelude.{◌≡◌, ℕ, ◌≤◌, Bool, true, false, List, [], length, refl}
use Rattle.std.specs.Prelude.{if◌then◌else◌}
use Rattle.std.specs.Coded.{Coded, code_by, coded×, coded_bool}
use Rattle.irc_names.specs.Limits.{max_created}
use Rattle.irc_tables.specs.FoldedRows.{coded_name}
use Rattle.irc_routes.specs.Info.{IsInfo}
use Rattle.irc_routes.specs.declared.own.Own.{Own}
use Rattle.irc_routes.specs.declared.programs.Programs.{Programs}
use Rattle.irc_routes.specs.declared.programs.Programs.TheVariants as programs

pub record About : Type 0 where
  -- how it describes itself (RFC 2813 section 4.1.2), and when it was created
  pub info : List ℕ
  pub created : List ℕ
  -- whether its clients have what programs expect beside the profile
  pub programs : Programs
  -- whether a link tells it that a user is away: as `:bo MODE bo +a :at lunch`
  pub tells_away : Bool

-- what a server says that is given these two texts, and has nothing beside the profile
abbrev pub says : List ℕ → List ℕ → About
says info created =
    record { info = info; created = created; programs = programs.Off; tells_away = false }

-- the same of one whose links tell who is away, and whose clients have what programs expect or not
abbrev pub serves : Programs → About → About
serves programs about = record about { programs = programs; tells_away = true }

-- what nobody has said
abbrev pub says_nothing : About
says_nothing = says [] []

-- what a server says that is configured so
abbrev pub about_of : Own → About
about_of own = says own.info.items own.created.items

-- the limits of what it says (our own choice)
pub record IsAbout (about : About) : Type 0 where
  pub info : IsInfo about.info
  pub created : length about.created ≤ max_created

-- the commands that programs expect are there or not, and that is stored as a Bool
abbrev pub are_on : Programs → Bool
are_on programs.Off = false
are_on programs.On = true

abbrev pub programs_of : Bool → Programs
programs_of on = if on then programs.On else programs.Off

-- it is stored as its fields
abbrev pub about_code : Coded About
about_code =
    code_by ((List ℕ × List ℕ) × (Bool × Bool))
    (coded× (coded× coded_name coded_name) (coded× coded_bool coded_bool))
    (λ a. ((a.info, a.created), (are_on a.programs, a.tells_away)))
    (λ p. record {
      info = p.0.0;
      created = p.0.1;
      programs = programs_of p.1.0;
      tells_away = p.1.1;
    })
    back
  where
    back : (a : About) → record {
      info = a.info;
      created = a.created;
      programs = programs_of (are_on a.programs);
      tells_away = a.tells_away;
    } ≡ a
    back a = by a.programs
      where
        by : (p : Programs) → record {
          info = a.info;
          created = a.created;
          programs = programs_of (are_on p);
          tells_away = a.tells_away;
        } ≡ record a { programs = p }
        by programs.Off = refl
        by programs.On = refl
