-- Which server a number on a link stands for, after each change.
use Rattle.std.proofs.Common.{◌≡◌, ℕ, Bool, true, false, cond, List, [], ◌∷◌, ◌++◌, map, nat_eq}
use Rattle.std.proofs.Common.{refl, sym, ◌∙◌, ap, is_some, append_assoc, Option, Some, None}
use Rattle.std.proofs.lemmas.Bool.{and_parts}
use Rattle.std.proofs.lemmas.Bool.Decides.{Decides-eqb}
use Rattle.std.specs.Cmp.Lexicographic.{nat_list_cmp_total}
use Rattle.std.specs.FinMap.{entries, entries_sorted, values, is_sorted, get-empty, get-entries}
use Rattle.std.specs.FinMap.{find as find_key}
use Rattle.std.specs.List.{find}
use Rattle.std.specs.Option.{option_map, option_and_then}
use Rattle.std.proofs.lemmas.Option.{same_Some}
use Rattle.irc_names.specs.Lemmas.PlainFacts.{is_true}
use Rattle.irc_names.specs.Tables.{Table, row, alter, fold_cmp}
use Rattle.irc_names.specs.TableLaws.{same_fold, same_fold-refl, one_fold, row-alter, row-each}
use Rattle.irc_tables.specs.Lemmas.OrderedEntries.{find-there, sorted-below}
use Rattle.irc_routes.specs.About.{About}
use Rattle.irc_routes.specs.Known.{Known, ServerRow, others, alone_known, row_of, has_token}
use Rattle.irc_routes.specs.Known.{token_in, unless_behind, without_server, without_link}
use Rattle.irc_routes.specs.Known.{IsNumbered}
use Rattle.irc_routes.specs.Lemmas.TableRows.{row_passes}
use Rattle.irc_routes.specs.Lemmas.NumberedRows.{find_none}

-- ---- a server that is found by a number

-- the row that is found stands at some name, and passes the test
record IsFound {X : Type 0} (p : X → Bool) (table : Table X) (x : X) : Type 0 where
  name : List ℕ
  there : row table name ≡ Some x
  passes : p x ≡ true

found_behind : {X : Type 0} (p : X → Bool) (table : Table X) (x : X)
    (front back : List (List ℕ × X)) → entries table ≡ front ++ back
    → find p (map (λ e. e.1) back) ≡ Some x → IsFound p table x
found_behind p table x front [] is found = cc
found_behind p table x front (e ∷ back) is found =
    elim (p e.1) as (λ b. p e.1 ≡ b → cond b (Some (e.1)) (find p (map (λ e. e.1) back)) ≡ Some x
    → IsFound p table x) [
      | true ↦ λ passes found.
          let one = same_Some e.1 x found in
          record {
            name = e.0;
            there = get-entries table e.0 ∙ ap (find_key fold_cmp e.0) is
                ∙ find-there nat_list_cmp_total e.0 e.1 front back
                (sorted-below nat_list_cmp_total e.0 e.1 front back
                (ap (is_sorted fold_cmp) (sym is) ∙ is_true _ (entries_sorted table)))
                ∙ ap (λ y. Some y) one;
            passes = ap p (sym one) ∙ passes;
          }
      | false ↦ λ fails found. found_behind p table x (front ++ e ∷ []) back
          (is ∙ sym (append_assoc front (e ∷ []) back)) found
    ] refl found

found_stands : {X : Type 0} (p : X → Bool) (table : Table X) (x : X)
    → find p (values table) ≡ Some x → IsFound p table x
found_stands p table x found = found_behind p table x [] (entries table) refl found

record HasNumber (link token : ℕ) (r : ServerRow) : Type 0 where
  on_link : r.link ≡ link
  number : r.token ≡ token

number_of : (link token : ℕ) (r : ServerRow) → has_token link token r ≡ true
    → HasNumber link token r
number_of link token r has =
    let parts = and_parts _ _ has in
    record {
      on_link = (Decides-eqb r.link link).0 parts.0;
      number = (Decides-eqb r.token token).0 parts.1;
    }

-- one server at most has a number on a link
one_server : (known : Known) → IsNumbered known → (link token : ℕ) (a b : List ℕ) (r s : ServerRow)
    → row_of known a ≡ Some r → row_of known b ≡ Some s → has_token link token r ≡ true
    → has_token link token s ≡ true → a ≡ b
one_server known numbered link token a b r s one other has also =
    let first = number_of link token r has in
    let second = number_of link token s also in
    numbered.tokens a b r s one other (first.on_link ∙ sym second.on_link)
    (first.number ∙ sym second.number)

-- the server that has the number is the one that is found
token_at : (known : Known) → IsNumbered known → (link token : ℕ) (name : List ℕ) (r : ServerRow)
    → row_of known name ≡ Some r → has_token link token r ≡ true
    → token_in known link token ≡ Some name
token_at known numbered link token name r there has =
    by (find (has_token link token) (others known)) refl
  where
    by : (o : Option ServerRow) → find (has_token link token) (others known) ≡ o
        → token_in known link token ≡ Some name
    by None none =
        let clash = sym (find_none (has_token link token) (others known) none)
        ∙ row_passes (has_token link token) known.rows name r there has in
        cc clash
    by (Some s) found =
        let stands = found_stands (has_token link token) known.rows s found in
        ap (option_map (λ (r : ServerRow). r.name)) found
        ∙ ap (λ n. Some n) ((numbered.rows stands.name s stands.there).named
        ∙ one_server known numbered link token stands.name name s r stands.there there
        stands.passes has)

-- where no server has the number none is found
token_none : (known : Known) (link token : ℕ) → ((name : List ℕ) (r : ServerRow) → row_of known name
    ≡ Some r → has_token link token r ≡ true → ⊥) → token_in known link token ≡ None
token_none known link token never = by (find (has_token link token) (others known)) refl
  where
    by : (o : Option ServerRow) → find (has_token link token) (others known) ≡ o
        → token_in known link token ≡ None
    by None none = ap (option_map (λ (r : ServerRow). r.name)) none
    by (Some s) found = let stands = found_stands (has_token link token) known.rows s found in
        absurd (never stands.name s stands.there stands.passes)

abbrev KeepsServers : ℕ → ℕ → Known → Known → Type 0
KeepsServers link token one other = (name : List ℕ) (r : ServerRow) → row_of one name ≡ Some r
    → has_token link token r ≡ true → row_of other name ≡ Some r

-- where the same servers have the number, it stands for the same one
token_kept : (old now : Known) → IsNumbered old → IsNumbered now → (link token : ℕ)
    → KeepsServers link token old now → KeepsServers link token now old
    → token_in now link token ≡ token_in old link token
token_kept old now was is link token there back = by (find (has_token link token) (others old)) refl
  where
    by : (o : Option ServerRow) → find (has_token link token) (others old) ≡ o
        → token_in now link token ≡ token_in old link token
    by None none =
        let nobody = ap (option_map (λ (r : ServerRow). r.name)) none in
        token_none now link token (λ name r stands has.
        let clash = sym nobody ∙ token_at old was link token name r (back name r stands has) has in
        cc clash)
        ∙ sym nobody
    by (Some s) found =
        let stands = found_stands (has_token link token) old.rows s found in
        token_at now is link token stands.name s
        (there stands.name s stands.there stands.passes) stands.passes
        ∙ sym (token_at old was link token stands.name s stands.there stands.passes)

-- ---- what a number stands for after each change

pub token_alone : (name : List ℕ) (about : About) (link token : ℕ)
    → token_in (alone_known name about) link token ≡ None
token_alone name about link token =
    token_none (alone_known name about) link token (λ q r there.
    let clash = sym (get-empty fold_cmp q) ∙ there in
    cc clash)

pub nobody_of : (o : Option ServerRow) → is_some o ≡ false → o ≡ None
nobody_of None is = refl
nobody_of (Some r) is = cc

module _ (known : Known) (new : ServerRow) (is_new : row_of known new.name ≡ None)
    (numbered : IsNumbered known) where
  abbrev more : Known
  more = record known { rows = alter new.name (λ _. Some new) known.rows }

  module _ (after : IsNumbered more) (link token : ℕ) where
    there_still : KeepsServers link token known more
    there_still name r there has =
        row-alter new.name (λ _. Some new) known.rows name ∙ by (same_fold name new.name) refl
      where
        by : (b : Bool) → same_fold name new.name ≡ b
            → cond b (Some new) (row known.rows name) ≡ Some r
        by true same = let clash =
            sym is_new ∙ ap (row known.rows) (sym (one_fold name new.name same)) ∙ there in cc clash
        by false other = there

    there_before : has_token link token new ≡ false → KeepsServers link token more known
    there_before not_its name r there has = by (same_fold name new.name)
        (sym (row-alter new.name (λ _. Some new) known.rows name) ∙ there)
      where
        by : (b : Bool) → cond b (Some new) (row known.rows name) ≡ Some r
            → row known.rows name ≡ Some r
        by true same = let clash = sym not_its ∙ ap (has_token link token) (same_Some new r same)
            ∙ has in cc clash
        by false other = other

    pub token_added : token_in more link token ≡ cond (has_token link token new) (Some (new.name))
        (token_in known link token)
    token_added = by (has_token link token new) refl
      where
        by : (b : Bool) → has_token link token new ≡ b
            → token_in more link token ≡ cond b (Some (new.name)) (token_in known link token)
        by true its =
            token_at more after link token new.name new
            (row-alter new.name (λ _. Some new) known.rows new.name
            ∙ ap (λ b. cond b (Some new) (row known.rows new.name)) (same_fold-refl new.name))
            its
        by false not_its =
            token_kept known more numbered after link token there_still (there_before not_its)

module _ (known : Known) (gone : ServerRow) (stood : row_of known gone.name ≡ Some gone)
    (numbered : IsNumbered known)
    (after : IsNumbered (without_server gone.name known)) (link token : ℕ) where
  abbrev fewer : Known
  fewer = without_server gone.name known

  others_stood : KeepsServers link token fewer known
  others_stood name r there has =
      by (same_fold name gone.name) (sym (row-alter gone.name (λ _. None) known.rows name) ∙ there)
    where
      by : (b : Bool) → cond b None (row known.rows name) ≡ Some r → row known.rows name ≡ Some r
      by true none = cc
      by false other = other

  others_stay : has_token link token gone ≡ false → KeepsServers link token known fewer
  others_stay not_its name r there has = row-alter gone.name (λ _. None) known.rows name
      ∙ by (same_fold name gone.name) refl
    where
      by : (b : Bool) → same_fold name gone.name ≡ b → cond b None (row known.rows name) ≡ Some r
      by true same =
          let one = same_Some gone r
          (sym stood ∙ ap (row known.rows) (sym (one_fold name gone.name same)) ∙ there) in
          let clash = sym not_its ∙ ap (has_token link token) one ∙ has in
          cc clash
      by false other = there

  gone_with_it : has_token link token gone ≡ true → (name : List ℕ) (r : ServerRow)
      → row_of fewer name ≡ Some r → has_token link token r ≡ true → ⊥
  gone_with_it its name r there has =
      let same = one_server known numbered link token name gone.name r gone
      (others_stood name r there has) stood has its in
      let clash = sym (row-alter gone.name (λ _. None) known.rows name
      ∙ ap (λ b. cond b None (row known.rows name)) (ap (λ n. same_fold n gone.name) same
      ∙ same_fold-refl gone.name)) ∙ there in
      cc clash

  pub token_forgotten : token_in fewer link token ≡ cond (has_token link token gone) None
      (token_in known link token)
  token_forgotten = by (has_token link token gone) refl
    where
      by : (b : Bool) → has_token link token gone ≡ b
          → token_in fewer link token ≡ cond b None (token_in known link token)
      by true its = token_none fewer link token (gone_with_it its)
      by false not_its =
          token_kept known fewer numbered after link token (others_stay not_its) others_stood

module _ (known : Known) (lost : ℕ) (numbered : IsNumbered known)
    (after : IsNumbered (without_link lost known)) (link token : ℕ) where
  abbrev left : Known
  left = without_link lost known

  record IsElsewhere (o : Option ServerRow) (r : ServerRow) : Type 0 where
    stood : o ≡ Some r
    elsewhere : nat_eq r.link lost ≡ false

  elsewhere_of : (o : Option ServerRow) (r : ServerRow)
      → option_and_then (unless_behind lost) o ≡ Some r → IsElsewhere o r
  elsewhere_of None r there = cc
  elsewhere_of (Some s) r there = by (nat_eq s.link lost) refl there
    where
      by : (b : Bool) → nat_eq s.link lost ≡ b → cond b None (Some s) ≡ Some r
          → IsElsewhere (Some s) r
      by true same e = cc
      by false other e = record {
        stood = e;
        elsewhere = ap (λ (r : ServerRow). nat_eq r.link lost)
            (sym (same_Some s r e)) ∙ other;
      }

  is_left : (name : List ℕ) (r : ServerRow) → row_of left name ≡ Some r
      → IsElsewhere (row known.rows name) r
  is_left name r there = elsewhere_of (row known.rows name) r
      (sym (row-each (unless_behind lost) known.rows name) ∙ there)

  pub token_lost : token_in left link token ≡ cond (nat_eq link lost) None
      (token_in known link token)
  token_lost = by (nat_eq link lost) refl
    where
      by : (b : Bool) → nat_eq link lost ≡ b
          → token_in left link token ≡ cond b None (token_in known link token)
      by true same = token_none left link token (λ name r there has.
          let number = number_of link token r has in
          let clash = sym (is_left name r there).elsewhere ∙ ap (λ l. nat_eq l lost) number.on_link
          ∙ same in
          cc clash)
      by false other = token_kept known left numbered after link token
          (λ name r there has.
          let number = number_of link token r has in
          row-each (unless_behind lost) known.rows name
          ∙ ap (option_and_then (unless_behind lost)) there
          ∙ ap (λ b. cond b None (Some r)) (ap (λ l. nat_eq l lost) number.on_link ∙ other))
          (λ name r there has. (is_left name r there).stood)
