-- What every server's rows keep, whatever is added, forgotten or lost.
use Rattle.std.proofs.Common.{◌≡◌, ℕ, ◌+◌, ◌-◌, ◌<◌, ◌≤◌, suc, Bool, true, false, cond, not, ◌||◌}
use Rattle.std.proofs.Common.{◌&&◌, List, [], ◌∷◌, length, nat_eq, nat_le, refl, sym, ◌∙◌, ap}
use Rattle.std.proofs.Common.{subst, Option, Some, None, arith, if◌then◌else◌}
use Rattle.std.proofs.lemmas.Bool.{or_parts, le-leb}
use Rattle.std.proofs.lemmas.Bool.Decides.{Decides-eqb}
use Rattle.std.specs.Cmp.Lexicographic.{bytes_decides, nat_list_cmp_total}
use Rattle.std.specs.FinMap.{empty, values, len, insert, remove, get-empty, len-empty, len-insert}
use Rattle.std.specs.FinMap.{len-remove}
use Rattle.std.specs.List.{find, list_any}
use Rattle.std.specs.Option.{option_map, option_and_then}
use Rattle.std.proofs.lemmas.Option.{same_Some}
use Rattle.irc_names.specs.Names.{is_server, IsServer}
use Rattle.irc_names.specs.Tables.{Table, row, alter, each, fold_cmp}
use Rattle.irc_names.specs.TableLaws.{same_fold, one_fold, row-alter, row-each}
use Rattle.irc_routes.specs.About.{About, IsAbout}
use Rattle.irc_routes.specs.Adding.{added_fault}
use Rattle.irc_routes.specs.declared.fault.RoutesFault.TheVariants as fault
use Rattle.irc_routes.specs.Info.{IsInfo}
use Rattle.irc_routes.specs.Limits.{max_servers}
use Rattle.irc_routes.specs.Known.{Known, ServerRow, others, alone_known, row_of, is_known, is_full}
use Rattle.irc_routes.specs.Known.{has_token, is_behind, token_in, smallest_free, unless_behind}
use Rattle.irc_routes.specs.Known.{added, without_server, without_link, IsRow, IsNumbered}
use Rattle.irc_routes.specs.Lemmas.SmallestFree.{smallest_is_least}
use Rattle.irc_routes.specs.Lemmas.TableRows.{length-values, row_passes, length_each}

-- ---- a server that knows no other

no_row : (q : List ℕ) (r : ServerRow) → row empty q ≡ Some r → ⊥
no_row q r there = let clash = sym (get-empty fold_cmp q) ∙ there in cc clash

pub numbered_alone : (name : List ℕ) (about : About) → IsServer name → IsAbout about
    → IsNumbered (alone_known name about)
numbered_alone name about rule limits = record {
  name = rule;
  about = limits;
  rows = λ q r there. absurd (no_row q r there);
  not_itself = get-empty fold_cmp name;
  few = let none = length-values {X = ServerRow} empty ∙ len-empty fold_cmp ServerRow in
      omega arith;
  ours = λ a b r s there. absurd (no_row a r there);
  tokens = λ a b r s there. absurd (no_row a r there);
}

-- ---- fewer rows

not_there : (table : Table ServerRow) (q : List ℕ) (o : Option ServerRow) → row table q ≡ o
    → ((r : ServerRow) → o ≡ Some r → ⊥) → row table q ≡ None
not_there table q None is never = is
not_there table q (Some r) is never = absurd (never r refl)

-- whoever keeps some of the rows keeps the numbers
pub numbered_fewer : (known : Known) (table : Table ServerRow) → IsNumbered known
    → ((q : List ℕ) (r : ServerRow) → row table q ≡ Some r → row known.rows q ≡ Some r)
    → length (values table) ≤ length (others known) → IsNumbered (record known { rows = table })
numbered_fewer known table numbered stays fewer = record {
  name = numbered.name;
  about = numbered.about;
  rows = λ q r there. numbered.rows q r (stays q r there);
  not_itself =
      not_there table known.name (row table known.name) refl
      (λ r there. let clash = sym numbered.not_itself ∙ stays known.name r there in cc clash);
  few = let few = numbered.few in omega arith;
  ours = λ a b r s one other. numbered.ours a b r s (stays a r one) (stays b s other);
  tokens = λ a b r s one other. numbered.tokens a b r s (stays a r one) (stays b s other);
}

-- what is left where one row is taken out
left_there : {X : Type 0} (b : Bool) (o : Option X) (x : X) → cond b None o ≡ Some x → o ≡ Some x
left_there true o x there = cc
left_there false o x there = there

at_most : {X : Type 0} (table : Table X) (name : List ℕ) (b : Bool) → len (remove table name)
    ≡ cond b (len table - 1) (len table) → len (remove table name) ≤ len table
at_most table name true is = omega arith
at_most table name false is = omega arith

shorter : (table : Table ServerRow) (name : List ℕ)
    → length (values (alter name (λ _. None) table)) ≤ length (values table)
unfolding alter
shorter table name =
    let before = length-values table in
    let after = length-values (remove table name) in
    let le = at_most table name _ (len-remove nat_list_cmp_total table name) in
    omega arith

pub numbered_without_server : (known : Known) (name : List ℕ) → IsNumbered known
    → IsNumbered (without_server name known)
numbered_without_server known name numbered =
    numbered_fewer known (alter name (λ _. None) known.rows) numbered
    (λ q r there. left_there (same_fold q name) (row known.rows q) r
    (sym (row-alter name (λ _. None) known.rows q) ∙ there))
    (shorter known.rows name)

kept_there : (link : ℕ) (o : Option ServerRow) (r : ServerRow)
    → option_and_then (unless_behind link) o ≡ Some r → o ≡ Some r
kept_there link None r there = there
kept_there link (Some s) r there = by (is_behind link s) there
  where
    by : (b : Bool) → cond b None (Some s) ≡ Some r → Some s ≡ Some r
    by true e = cc
    by false e = e

pub stays_elsewhere : (link : ℕ) (r : ServerRow)
    → unless_behind link r ≡ cond (not (is_behind link r)) (Some r) None
stays_elsewhere link r = by (is_behind link r)
  where
    by : (b : Bool) → cond b None (Some r) ≡ cond (not b) (Some r) None
    by true = refl
    by false = refl

pub numbered_without_link : (known : Known) (link : ℕ) → IsNumbered known
    → IsNumbered (without_link link known)
numbered_without_link known link numbered =
    numbered_fewer known (each (unless_behind link) known.rows) numbered
    (λ q r there. kept_there link (row known.rows q) r
    (sym (row-each (unless_behind link) known.rows q) ∙ there))
    (length_each (λ r. not (is_behind link r)) (unless_behind link)
    (stays_elsewhere link) known.rows)

-- ---- a server more

pub record IsAdmitted (known : Known) (name : List ℕ) : Type 0 where
  pub new : is_known known name ≡ false
  pub rule : IsServer name
  pub room : is_full known ≡ false

pub admitted : (known : Known) (name : List ℕ) → added_fault known name ≡ None
    → IsAdmitted known name
admitted known name none =
    by (is_known known name) (is_server name) (is_full known) refl refl refl none
  where
    by : (a b c : Bool) → is_known known name ≡ a → is_server name ≡ b → is_full known ≡ c
        → (if a then Some fault.Known else (if not b then Some fault.BadName
        else (if c then Some fault.Full else None))) ≡ None → IsAdmitted known name
    by true b c ea eb ec e = cc
    by false false c ea eb ec e = cc
    by false true true ea eb ec e = cc
    by false true false ea eb ec e = record { new = ea; rule = eb; room = ec }

pub find_none : {X : Type 0} (p : X → Bool) (xs : List X) → find p xs ≡ None → list_any p xs ≡ false
find_none p [] none = refl
find_none p (x ∷ xs) none = by (p x) none (find_none p xs)
  where
    by : (b : Bool) → cond b (Some x) (find p xs) ≡ None
        → (find p xs ≡ None → list_any p xs ≡ false) → (b || list_any p xs) ≡ false
    by true none rest = cc
    by false none rest = rest none

pub map_none : {X Y : Type 0} (f : X → Y) (o : Option X) → option_map f o ≡ None → o ≡ None
map_none f None none = refl
map_none f (Some x) none = cc

-- what is so of the new row, and of each row that was there, is so of each row now
after_put : {X : Type 0} (table : Table X) (name : List ℕ) (new : X) (P : List ℕ → X → Type 0)
    → P name new → (q : List ℕ) (r : X) → (row table q ≡ Some r
    → P q r)
    → row (alter name (λ _. Some new) table) q ≡ Some r → P q r
after_put table name new P at_new q r before there =
    by (same_fold q name) refl (sym (row-alter name (λ _. Some new) table q) ∙ there)
  where
    by : (b : Bool) → same_fold q name ≡ b → cond b (Some new) (row table q) ≡ Some r → P q r
    by true same e = subst (λ x. P q x) (same_Some new r e)
        (subst (λ n. P n new) (sym (one_fold q name same)) at_new)
    by false other e = before e

module _ (known : Known) (link : ℕ) (uplink name : List ℕ) (distance token : ℕ) (info : List ℕ)
    (numbered : IsNumbered known)
    (uplink_rule : IsServer uplink) (limits : IsInfo info)
    (admits : IsAdmitted known name) (unused : token_in known link token ≡ None) where
  abbrev new_row : ServerRow
  new_row = record {
    link = link;
    uplink = uplink;
    name = name;
    distance = distance;
    token = token;
    ours = smallest_free known;
    info = info;
  }

  abbrev after : Table ServerRow
  after = alter name (λ _. Some new_row) known.rows

  new_number : (q : List ℕ) (r : ServerRow) → row_of known q ≡ Some r
      → r.ours ≡ smallest_free known → ⊥
  new_number q r there same =
      let used =
      row_passes (λ (s : ServerRow). nat_eq s.ours (smallest_free known)) known.rows q r there
      ((Decides-eqb r.ours (smallest_free known)).1 same) in
      let clash = sym (smallest_is_least (others known)).free ∙ used in
      cc clash

  new_token : (q : List ℕ) (r : ServerRow) → row_of known q ≡ Some r → r.link ≡ link
      → r.token ≡ token → ⊥
  new_token q r there same_link same_token =
      let used = row_passes (has_token link token) known.rows q r there
      (ap (λ b. b && nat_eq r.token token) ((Decides-eqb r.link link).1 same_link)
      ∙ (Decides-eqb r.token token).1 same_token) in
      let clash = sym (find_none (has_token link token) (others known)
      (map_none (λ (s : ServerRow). s.name) (find (has_token link token)
      (others known)) unused)) ∙ used in
      cc clash

  new_name : row after known.name ≡ None
  new_name =
      row-alter name (λ _. Some new_row) known.rows known.name ∙ by (same_fold known.name name) refl
    where
      by : (b : Bool) → same_fold known.name name ≡ b
          → cond b (Some new_row) (row known.rows known.name) ≡ None
      by true same =
          let clash = sym (or_parts _ _ admits.new).0
          ∙ (bytes_decides known.name name).1 (one_fold known.name name same) in
          cc clash
      by false other = numbered.not_itself

  one_more : (table : Table ServerRow) (b : Bool) → len (insert table name new_row)
      ≡ cond b (len table) (len table + 1) → len (insert table name new_row) ≤ suc (len table)
  one_more table true is = omega arith
  one_more table false is = omega arith

  room_left : (n : ℕ) → nat_le max_servers (suc n) ≡ false → suc n < max_servers
  room_left n full = grind (arith, le-leb max_servers (suc n))

  few_now : length (values after) < max_servers
  unfolding alter
  few_now =
      let before = length-values known.rows in
      let now = length-values (insert known.rows name new_row) in
      let le = one_more known.rows _ (len-insert nat_list_cmp_total known.rows name new_row) in
      let left = room_left (length (others known)) admits.room in
      omega arith

  pub numbered_added : IsNumbered (added link uplink name distance token info known)
  numbered_added = record {
    name = numbered.name;
    about = numbered.about;
    rows = λ q r. after_put known.rows name new_row IsRow (record {
      named = refl;
      rule = admits.rule;
      uplink = uplink_rule;
      info = limits;
      ours = (smallest_is_least (others known)).from;
    }) q r (numbered.rows q r);
    not_itself = new_name;
    few = few_now;
    ours = λ a b r s one other same.
        after_put known.rows name new_row (λ a r. r.ours ≡ s.ours → a ≡ b)
        (after_put known.rows name new_row (λ b s. smallest_free known ≡ s.ours → name ≡ b)
        (λ _. refl) b s (λ there same. absurd (new_number b s there
        (sym same))) other)
        a r
        (λ there. after_put known.rows name new_row (λ b s. r.ours ≡ s.ours → a ≡ b)
        (λ same. absurd (new_number a r there same)) b s
        (λ there_too same. numbered.ours a b r s there there_too same) other)
        one same;
    tokens = λ a b r s one other on_link same.
        after_put known.rows name new_row (λ a r. r.link ≡ s.link → r.token ≡ s.token → a ≡ b)
        (after_put known.rows name new_row (λ b s. link ≡ s.link → token ≡ s.token → name ≡ b)
        (λ _ _. refl) b s
        (λ there on_link same. absurd (new_token b s there (sym on_link) (sym same))) other)
        a r
        (λ there. after_put known.rows name new_row (λ b s. r.link ≡ s.link → r.token ≡ s.token
        → a ≡ b)
        (λ on_link same. absurd (new_token a r there on_link same)) b s
        (λ there_too on_link same. numbered.tokens a b r s there there_too on_link same) other)
        one on_link same;
  }
