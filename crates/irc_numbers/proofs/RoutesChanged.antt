-- Servers that are known alike stay so as one comes, one goes, or all behind a link go.
use Rattle.std.proofs.Common.{◌≡◌, ℕ, Bool, true, false, cond, nat_eq, Option, Some, None, List}
use Rattle.std.proofs.Common.{sym, ap, subst, if◌then◌else◌}
use Rattle.std.specs.Option.{option_and_then}
use Rattle.irc_names.specs.Tables.{row}
use Rattle.irc_names.specs.TableLaws.{row-alter, row-each, same_fold}
use Rattle.irc_routes.specs.declared.server_row.ServerRow.{ServerRow}
use Rattle.irc_routes.specs.Known.{Known, added, smallest_free, unless_behind, without_link}
use Rattle.irc_routes.specs.Known.{without_server}
use Rattle.irc_numbers.specs.Alike.{AreApart, AreRowsAlike, Numbers}
use Rattle.irc_numbers.proofs.KnownAlike.{AreKnownAlike, free_same, same_link}

module _ (numbers : Numbers) (own other : Known) (alike : AreKnownAlike numbers own other) where
  -- rows that are these are alike as these are
  rows_from : (mine mine_now theirs theirs_now : Option ServerRow) → mine_now ≡ mine → theirs_now
      ≡ theirs → AreRowsAlike numbers mine theirs → AreRowsAlike numbers mine_now theirs_now
  rows_from mine mine_now theirs theirs_now one another is =
      subst (λ o. AreRowsAlike numbers o theirs_now) (sym one)
      (subst (AreRowsAlike numbers mine) (sym another) is)

  pub added_alike : (place conn : ℕ) → numbers.link place ≡ Some conn
      → (uplink name : List ℕ) (distance token : ℕ) (info : List ℕ)
      → AreKnownAlike numbers (added conn uplink name distance token info own)
      (added place uplink name distance token info other)
  added_alike place conn is_end uplink name distance token info = record {
    name = alike.name;
    about = alike.about;
    rows = λ q.
        rows_from (cond (same_fold q name) (Some (new conn (smallest_free own))) (row own.rows q)) _
        (cond (same_fold q name) (Some (new place (smallest_free other))) (row other.rows q)) _
        (row-alter name (λ _. Some (new conn (smallest_free own))) own.rows q)
        (row-alter name (λ _. Some (new place (smallest_free other))) other.rows q)
        (by q (same_fold q name));
  }
    where
      new : ℕ → ℕ → ServerRow
      new link ours = record {
        link = link;
        uplink = uplink;
        name = name;
        distance = distance;
        token = token;
        ours = ours;
        info = info;
      }

      by : (q : List ℕ) (b : Bool)
          → AreRowsAlike numbers (cond b (Some (new conn (smallest_free own))) (row own.rows q))
          (cond b (Some (new place (smallest_free other))) (row other.rows q))
      by q true = (ap (new place) (free_same numbers own other alike), is_end)
      by q false = alike.rows q

  pub less_alike : (name : List ℕ)
      → AreKnownAlike numbers (without_server name own) (without_server name other)
  less_alike name = record {
    name = alike.name;
    about = alike.about;
    rows = λ q.
        rows_from (cond (same_fold q name) None (row own.rows q)) _
        (cond (same_fold q name) None (row other.rows q)) _
        (row-alter name (λ _. None) own.rows q) (row-alter name (λ _. None) other.rows q)
        (by q (same_fold q name));
  }
    where
      by : (q : List ℕ) (b : Bool)
          → AreRowsAlike numbers (cond b None (row own.rows q)) (cond b None (row other.rows q))
      by q true = tt
      by q false = alike.rows q

  pub unlinked_alike : AreApart numbers → (place conn : ℕ) → numbers.link place ≡ Some conn
      → AreKnownAlike numbers (without_link conn own) (without_link place other)
  unlinked_alike apart place conn is_end = record {
    name = alike.name;
    about = alike.about;
    rows = λ q.
        rows_from (option_and_then (unless_behind conn) (row own.rows q)) _
        (option_and_then (unless_behind place) (row other.rows q)) _
        (row-each (unless_behind conn) own.rows q) (row-each (unless_behind place) other.rows q)
        (left (row own.rows q) (row other.rows q) (alike.rows q));
  }
    where
      by : (mine theirs : ServerRow) (a b : Bool) → b ≡ a
          → AreRowsAlike numbers (Some mine) (Some theirs)
          → AreRowsAlike numbers (if a then None else Some mine) (if b then None else Some theirs)
      by mine theirs true true same is = tt
      by mine theirs false false same is = is
      by mine theirs true false same is = cc same
      by mine theirs false true same is = cc same

      left : (mine theirs : Option ServerRow) → AreRowsAlike numbers mine theirs
          → AreRowsAlike numbers (option_and_then (unless_behind conn) mine)
          (option_and_then (unless_behind place) theirs)
      left None None is = tt
      left None (Some theirs) is = absurd is
      left (Some mine) None is = absurd is
      left (Some mine) (Some theirs) is =
          by mine theirs (nat_eq mine.link conn) (nat_eq theirs.link place)
          (same_link numbers own other alike apart place conn is_end theirs.link mine.link is.1) is
