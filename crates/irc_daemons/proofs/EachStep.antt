-- Each step of daemons, by what it is: with items, a link's end that is read, or nothing of these.
use Rattle.std.proofs.Common.{◌≡◌, ℕ, Bool, true, false, not, ◌&&◌, ◌⊎◌, inl, inr, is_some, Option}
use Rattle.std.proofs.Common.{Some, None, List, [], ◌∷◌, nat_eq, refl, sym, ◌∙◌, ap, unwrap_or}
use Rattle.std.proofs.lemmas.Bool.{eq-eqb, eqb-true}
use Rattle.std.specs.Prelude.{⊤}
use Rattle.std.specs.FinMap.{contains_key-keys, get, keys}
use Rattle.std.specs.List.{list_all}
use Rattle.std.specs.Option.{option_and_then}
use Rattle.irc_outbox.specs.declared.wire.Ready.{Ready}
use Rattle.irc_outbox.specs.declared.wire.Ready.TheVariants.{Client, Linked, Idle, Readable}
use Rattle.irc_outbox.specs.declared.wire.Ready.TheVariants.{Writable}
use Rattle.irc_outbox.specs.Calls.{Call}
use Rattle.irc_line.specs.Laws.{PiecesCompleteTheSame}
use Rattle.irc_relay.specs.Links.{Name}
use Rattle.irc_server.specs.Connected.{WhoIsConnected}
use Rattle.irc_server.specs.LineEnds.{ServedLinesEnd}
use Rattle.irc_server.specs.Own.{ServedGoesToItsOwn}
use Rattle.irc_network.specs.Network.{Node, node_at}
use Rattle.irc_network.specs.ByteNetwork.{ByteNetwork}
use Rattle.irc_pipes.specs.Lemmas.StillPipes.{one_of}
use Rattle.irc_daemons.specs.AsNetwork.{HasFollowed, IsAsNetwork}
use Rattle.irc_daemons.specs.Daemons.{Daemons, IsToldOfLinks}
use Rattle.irc_daemons.specs.Alike.{ServedAlike}
use Rattle.irc_daemons.specs.EachStep.{AreFollowed, EachStep, ReadsLink}
use Rattle.irc_daemons.specs.Items.{has_item}
use Rattle.irc_daemons.specs.Steps.{Steps}
use Rattle.irc_daemons.proofs.ByLink.{by_link}
use Rattle.irc_daemons.proofs.StreamLines.{stream_lines_are_carried}
use Rattle.irc_daemons.proofs.WhoStays.{clients_stay}
use Rattle.irc_daemons.proofs.WithItems.{by_nobody, with_items}

-- ---- whether a link's end is read

pub data Found (conn : ℕ) (ends : ℕ → Option ℕ) : Type 0 where
  found_at : (y : ℕ) → ends y ≡ Some conn → Found conn ends

abbrev is_not : ℕ → Option ℕ → Bool
is_not conn None = true
is_not conn (Some number) = not (nat_eq number conn)

not_it : (conn : ℕ) (o : Option ℕ) → is_not conn o ≡ true → o ≡ Some conn → ⊥
not_it conn None is it = cc it
not_it conn (Some number) is it = by (nat_eq number conn) refl is
  where
    same : number ≡ conn
    same = ap (λ (o : Option ℕ). unwrap_or o number) it

    by : (b : Bool) → nat_eq number conn ≡ b → not b ≡ true → ⊥
    by true one none = cc none
    by false two none = cc (sym (eq-eqb number conn same) ∙ two)

it_is : (conn : ℕ) (o : Option ℕ) → is_not conn o ≡ false → o ≡ Some conn
it_is conn None is = cc is
it_is conn (Some number) is = by (nat_eq number conn) refl is
  where
    by : (b : Bool) → nat_eq number conn ≡ b → not b ≡ false → Some number ≡ Some conn
    by true one none = ap Some (eqb-true number conn one)
    by false two none = cc none

search : (conn : ℕ) (ends : ℕ → Option ℕ) (numbers : List ℕ)
    → Found conn ends ⊎ (list_all (λ y. is_not conn (ends y)) numbers ≡ true)
search conn ends [] = inr refl
search conn ends (y ∷ numbers) = by (is_not conn (ends y)) refl (search conn ends numbers)
  where
    by : (b : Bool) → is_not conn (ends y) ≡ b
        → Found conn ends ⊎ (list_all (λ y. is_not conn (ends y)) numbers ≡ true)
        → Found conn ends ⊎ (list_all (λ y. is_not conn (ends y)) (y ∷ numbers) ≡ true)
    by false is rest = inl (found_at y (it_is conn (ends y) is))
    by true is (inl found) = inl found
    by true is (inr none) =
        inr (ap (λ b. b && list_all (λ y. is_not conn (ends y)) numbers) is ∙ none)

-- one of the ways of a node, or none
find_way : (node : Node) (conn : ℕ) (ends : ℕ → Option ℕ) → ((y : ℕ) → is_some (ends y) ≡ true
    → is_some (get node.queues y) ≡ true) → Found conn ends ⊎ ((y : ℕ) → ends y ≡ Some conn → ⊥)
find_way node conn ends ways = by (search conn ends (keys node.queues))
  where
    by : Found conn ends ⊎ (list_all (λ y. is_not conn (ends y)) (keys node.queues) ≡ true)
        → Found conn ends ⊎ ((y : ℕ) → ends y ≡ Some conn → ⊥)
    by (inl found) = inl found
    by (inr none) =
        inr (λ y is. not_it conn (ends y)
        (one_of (λ y. is_not conn (ends y)) y (keys node.queues) none
        (sym (contains_key-keys node.queues y) ∙ ways y (ap is_some is))) is)

some_way : (o : Option Node) (conn : ℕ) (ends : ℕ → Option ℕ) → ((y : ℕ)
    → is_some (option_and_then (λ (node : Node). get node.queues y) o) ≡ is_some (ends y))
    → Found conn ends ⊎ ((y : ℕ) → ends y ≡ Some conn → ⊥)
some_way None conn ends ways = inr (λ y is. cc (ways y ∙ ap is_some is))
some_way (Some node) conn ends ways = find_way node conn ends (λ y there. ways y ∙ there)

module _ {W : Type 0} (is_after : W → List Call → Type 0) (names : List Name) (place : ℕ)
    (old new : Daemons W) (net : ByteNetwork)
    (step : Steps is_after place old new) (told : IsToldOfLinks old place)
    (same : IsAsNetwork names old net)
  where
    abbrev one_read : Ready → ℕ
    one_read (Client conn host) = conn
    one_read (Linked conn called) = conn
    one_read Idle = 0
    one_read (Readable conn) = conn
    one_read (Writable conn) = conn

    of_one : (conn : ℕ) → step.turn.report ≡ Readable conn → ReadsLink step ⊎ (¬ (ReadsLink step))
    of_one conn report = by (some_way (node_at net.network place) conn (old.ends place)
        (λ y. same.as_bytes.ways place y ∙ told y))
      where
        by : Found conn (old.ends place) ⊎ ((y : ℕ) → old.ends place y ≡ Some conn → ⊥)
            → ReadsLink step ⊎ (¬ (ReadsLink step))
        by (inl (found_at y is)) =
            inl (record { from = y; conn = conn; is_end = is; is_read = report })
        by (inr none) =
            inr (λ reads. none reads.from
            (reads.is_end ∙ ap (λ r. Some (one_read r)) (sym reads.is_read ∙ report)))

    pub reads_or_not : ReadsLink step ⊎ (¬ (ReadsLink step))
    reads_or_not = by step.turn.report refl
      where
        by : (report : Ready) → step.turn.report ≡ report → ReadsLink step ⊎ (¬ (ReadsLink step))
        by (Readable conn) is = of_one conn is
        by Idle is = inr (λ reads. cc (sym is ∙ reads.is_read))
        by (Client conn host) is = inr (λ reads. cc (sym is ∙ reads.is_read))
        by (Linked conn called) is = inr (λ reads. cc (sym is ∙ reads.is_read))
        by (Writable conn) is = inr (λ reads. cc (sym is ∙ reads.is_read))

-- ---- any step

abbrev pub any_kind : {W : Type 0} (is_after : W → List Call → Type 0) (place : ℕ)
    (old new : Daemons W) → Steps is_after place old new → Type 0
any_kind is_after place old new step = ⊤

module _ {W : Type 0} (is_after : W → List Call → Type 0) (each : EachStep is_after) where
  pub any_step : AreFollowed is_after (any_kind is_after)
  any_step names place items old new net step any links are apart_step told placed same =
      by (has_item step.did.events) refl
    where
      without : has_item step.did.events ≡ false → ReadsLink step ⊎ (¬ (ReadsLink step))
          → HasFollowed names items net new
      without no_item (inl reads) = each.by_link names place items old new net step
          (reads, no_item) links are apart_step told placed same
      without no_item (inr not_read) = each.by_nobody names place items old new net step
          (not_read, no_item) links are apart_step told placed same

      by : (b : Bool) → has_item step.did.events ≡ b → HasFollowed names items net new
      by true is = each.with_items names place items old new net step is links are apart_step told
          placed same
      by false is = without is (reads_or_not is_after names place old new net step told same)

-- ---- each step

pub each_step : {W : Type 0} (is_after : W → List Call → Type 0) → PiecesCompleteTheSame
    → ServedLinesEnd → ServedGoesToItsOwn → WhoIsConnected → ServedAlike → EachStep is_after
each_step is_after pieces lines_end own_law connected alike_law =
    let stay = clients_stay connected in record {
      with_items =
          with_items is_after pieces lines_end own_law stay alike_law stream_lines_are_carried;
      by_link = by_link is_after pieces lines_end own_law stay alike_law;
      by_nobody =
          by_nobody is_after pieces lines_end own_law stay alike_law stream_lines_are_carried;
    }
