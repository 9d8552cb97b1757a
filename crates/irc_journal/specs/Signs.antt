-- What there is to tell of links, by what comes to light of them (our own choice: RFC 2813 says
-- nothing of it). A link is up once the server at its other end is known; one that this side ends
-- before that was refused, and one that it ends later is closed. Where nobody is known there, the
-- name that was claimed in a line of it is told.
--
-- a.net calls b.net, and is called by another: link 1 goes to b.net, link 2 comes from whom nobody
-- knows yet.
--   b.net is known behind 1        link to b.net: up
--   c.net is known behind 2        link from c.net: up
--   a.net closes 1 for a reason    link to b.net: closed, for that reason
--   2 is lost                      link from c.net: lost
--   3 says that it is b.net, and a.net closes it           link from b.net: refused
--   a.net closes 4, of which nobody has said who it is     link from an unknown server: refused
use Rattle.std.specs.Prelude.{◌≡◌, ℕ, true, false, is_some, nat_eq, Option, Some, None, List, []}
use Rattle.std.specs.Prelude.{◌∷◌, ◌++◌, if◌then◌else◌}
use Rattle.std.specs.Ordering.{nat_cmp}
use Rattle.std.specs.BTreeMap.{get}
use Rattle.irc_batch.specs.declared.close_reason.CloseReason.{CloseReason}
use Rattle.irc_batch.specs.Batches.{Sent, end_of_link}
use Rattle.irc_journal.specs.declared.journal.Journal.{Journal}
use Rattle.irc_journal.specs.declared.page.Page.{Page}
use Rattle.irc_journal.specs.declared.tidings.Tidings.{Tidings}
use Rattle.irc_journal.specs.declared.tidings.Outcome.{Outcome}
use Rattle.irc_journal.specs.declared.tidings.Outcome.TheVariants as outcome

-- what comes to light of a link: it is there, by a call of this server or by its call; a line of it
-- was heard, in which this name is claimed, or none; this server is known behind that at its other
-- end, or none; this side closes it; it is lost
pub data Sign : Type 0 where
  opens : (called : Option (List ℕ)) → Sign
  claims : (claimed : Option (List ℕ)) → Sign
  meets : (far : Option (List ℕ)) → Sign
  closes : (reason : CloseReason) → Sign
  is_gone : Sign

-- ---- how a link stands

-- one of which nothing is known: it came from without
abbrev pub unknown_page : Page
unknown_page = record { name = None; is_called = false; is_up = false }

-- one that has just been made
abbrev pub fresh_page : Option (List ℕ) → Page
fresh_page called = record { name = called; is_called = is_some called; is_up = false }

-- a name is claimed there, which counts where none is known, and none was claimed before
abbrev pub name_or : Option (List ℕ) → Option (List ℕ) → Option (List ℕ)
name_or claimed None = claimed
name_or claimed (Some name) = Some name

abbrev pub claimed_page : Option (List ℕ) → Page → Page
claimed_page claimed page = record page { name = name_or claimed page.name }

-- the server of this name is known at its other end
abbrev pub risen : List ℕ → Page → Page
risen name page = record page { name = Some name; is_up = true }

-- a link is up from the first time on that a server is known there
abbrev pub met_page : List ℕ → Page → Page
met_page name page = if page.is_up then page else risen name page

-- how it stands behind a sign, if it is there
abbrev pub page_after : Sign → Option Page → Option Page
page_after (opens called) page = Some (fresh_page called)
page_after (claims claimed) None = None
page_after (claims claimed) (Some page) = Some (claimed_page claimed page)
page_after (meets None) page = page
page_after (meets (Some name)) None = None
page_after (meets (Some name)) (Some page) = Some (met_page name page)
page_after (closes reason) page = None
page_after is_gone page = None

-- ---- what is told

abbrev pub told_as : Outcome → ℕ → Page → Tidings
told_as what link page =
    record { link = Some link; name = page.name; is_called = page.is_called; outcome = what }

abbrev pub closing_told : CloseReason → ℕ → Page → Tidings
closing_told reason link page =
    told_as (if page.is_up then outcome.Closed reason else outcome.Refused reason) link page

abbrev pub loss_told : ℕ → Page → Tidings
loss_told link page =
    told_as (if page.is_up then outcome.Lost else outcome.LostEarly) link page

-- that it is up is told once
abbrev pub rise_told : List ℕ → ℕ → Page → List Tidings
rise_told name link page =
    if page.is_up then [] else told_as outcome.Up link (risen name page) ∷ []

-- by a sign of this link
abbrev pub told_by : ℕ → Sign → Option Page → List Tidings
told_by link (opens called) page = []
told_by link (claims claimed) page = []
told_by link (meets None) page = []
told_by link (meets (Some name)) None = []
told_by link (meets (Some name)) (Some page) = rise_told name link page
told_by link (closes reason) None = closing_told reason link unknown_page ∷ []
told_by link (closes reason) (Some page) = closing_told reason link page ∷ []
told_by link is_gone None = []
told_by link is_gone (Some page) = loss_told link page ∷ []

-- ---- a journal

-- how a link stands, if it is there
abbrev pub page_at : Journal → ℕ → Option Page
page_at journal link = get nat_cmp journal.pages link

-- it has no link, nothing to tell, and has said nothing
pub record IsBlank (journal : Journal) : Type 0 where
  pub no_pages : (link : ℕ) → page_at journal link ≡ None
  pub no_tidings : journal.tidings.items ≡ []
  pub nothing_said : journal.lately.rows.items ≡ []

-- a sign of one link is entered: that link stands as it does behind it, and what is told of it is
-- told behind all else
pub record Enters (link : ℕ) (sign : Sign) (old new : Journal) : Type 0 where
  pub pages : (q : ℕ) → page_at new q ≡ (if nat_eq link q then page_after sign (page_at old link)
      else page_at old q)
  pub tidings : new.tidings.items ≡ old.tidings.items ++ told_by link sign (page_at old link)
  pub lately : new.lately ≡ old.lately

-- what was to be told is taken out
pub record IsEmptied (old new : Journal) : Type 0 where
  pub pages : new.pages ≡ old.pages
  pub no_tidings : new.tidings.items ≡ []
  pub lately : new.lately ≡ old.lately

-- signs are entered, and then others
pub record EntersFirst (link : ℕ) (sign : Sign) (old : Journal)
    (rest : Journal → Type 0) : Type 0 where
  pub between : Journal
  pub enters : Enters link sign old between
  pub rest_is : rest between

-- signs of links are entered, one after another, and no others
abbrev pub EntersAll : List (ℕ × Sign) → Journal → Journal → Type 0
EntersAll [] old new = new ≡ old
EntersAll (first ∷ signs) old new =
    EntersFirst first.0 first.1 old (λ between. EntersAll signs between new)

-- what comes to light by what a server puts out: the links that it closes
abbrev pub sign_of : Sent → List (ℕ × Sign)
sign_of (end_of_link link reason) = (link, closes reason) ∷ []
sign_of other = []
