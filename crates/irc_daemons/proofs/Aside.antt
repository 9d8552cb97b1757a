-- A side of a network on which nothing is on its way stays so while the other one goes on.
--
-- a.net is linked to b.net, and b.net to c.net. The link between b.net and c.net is cut, and b.net
-- is told of that:
--   b.net puts out that c.net is gone      on the way to a.net; on no way from c.net or to it
--   bytes come from b.net to a.net         and nothing is on such a way still
use Rattle.std.proofs.Common.{◌≡◌, ℕ, Bool, true, false, ◌&&◌, is_none, Option, Some, None, List}
use Rattle.std.proofs.Common.{[], ◌∷◌, ◌++◌, nat_eq, refl, sym, ◌∙◌, ap, take, if◌then◌else◌}
use Rattle.std.proofs.lemmas.Bool.{eqb-true}
use Rattle.std.proofs.Math.Seq.{drop-nil, take-nil}
use Rattle.std.specs.FinMap.{get}
use Rattle.irc_names.specs.Lemmas.PlainFacts.{nat_eq-turned}
use Rattle.irc_line.specs.Lines.{begun_behind, completed, lines, nothing_begun}
use Rattle.irc_line.specs.Messages.{Written, text}
use Rattle.irc_batch.specs.declared.close_reason.CloseReason.TheVariants as reason
use Rattle.irc_batch.specs.Batches.{end_of_link}
use Rattle.irc_server.specs.LinkServed.{on_link, opening_parts}
use Rattle.irc_relay.specs.Links.{Name}
use Rattle.irc_server.specs.Served.{ReadEvent, in_silence, link_up, served}
use Rattle.irc_stage.specs.EffectTold.{with_sent}
use Rattle.irc_stage.specs.View.{View, password_for, with_end}
use Rattle.irc_network.specs.Node.{Served, line_body, reply}
use Rattle.irc_world.specs.Stepping.{Item}
use Rattle.irc_network.specs.Network.{begun, node_asked}
use Rattle.irc_pipes.specs.Pipes.{Pipes, lines_by, new_pipe, pipe_at}
use Rattle.irc_network.specs.ByteNetwork.{ByteNetwork, bytes_come, completed_in}
use Rattle.irc_network.specs.ByteNetwork.{queues_written, pipes_come}
use Rattle.irc_network.specs.Whole.{IsTidy, has_way}
use Rattle.irc_network.specs.Lemmas.NewFramer.{new_is_real}
use Rattle.irc_daemons.proofs.Asked.{AllStill}
use Rattle.irc_daemons.proofs.Given.{pipe_behind}
use Rattle.irc_daemons.proofs.GoesOn.{GoesOn, asked_goes_on, bytes_go_on, come_at, come_if}
use Rattle.irc_daemons.proofs.Halves.{one_asked}
use Rattle.irc_daemons.proofs.OwnClients.{all_replies}
use Rattle.irc_daemons.proofs.Sent.{server_at}
use Rattle.irc_daemons.proofs.Written.{bodies, with_ends}

-- No way leaves a side. On the other side nothing is on its way, nor is anything where there is no
-- way.
pub record IsAside (side : ℕ → Bool) (net : ByteNetwork) : Type 0 where
  pub stays : (x y : ℕ) → has_way net.network x y ≡ true → side x ≡ side y
  pub still : (x y : ℕ) → side x ≡ false → pipe_at net.pipes x y ≡ new_pipe
  pub no_way : (x y : ℕ) → has_way net.network x y ≡ false → pipe_at net.pipes x y ≡ new_pipe

-- nothing is on its way to the other side
pub nothing_comes : (side : ℕ → Bool) (net : ByteNetwork) → IsAside side net → (to : ℕ)
    → side to ≡ false → (from : ℕ) → pipe_at net.pipes from to ≡ new_pipe
nothing_comes side net aside to there from = by (has_way net.network from to) refl
  where
    by : (b : Bool) → has_way net.network from to ≡ b → pipe_at net.pipes from to ≡ new_pipe
    by true way = aside.still from to (aside.stays from to way ∙ there)
    by false none = aside.no_way from to none

-- ---- a server puts something out

-- one that is on the other side puts out nothing
module _ (side : ℕ → Bool) (place : ℕ) (next : Served) (along : Pipes) (old new : ByteNetwork)
    (goes : GoesOn place next along old new)
    (stays : (x y : ℕ) → has_way old.network x y ≡ true → side x ≡ side y)
    (still : (x y : ℕ) → side x ≡ false → pipe_at along x y ≡ new_pipe)
    (no_way : (x y : ℕ) → has_way old.network x y ≡ false → pipe_at along x y ≡ new_pipe)
    (silent : side place ≡ false → (y : ℕ) → bodies y next.out ≡ [])
  where
    still_here : side place ≡ false → (y : ℕ) (b : Bool) → has_way old.network place y ≡ b
        → pipe_at new.pipes place y ≡ new_pipe
    still_here there y true way =
        goes.pipes_here y way
        ∙ ap (λ ls. pipe_behind (with_ends ls) (pipe_at along place y)) (silent there y)
        ∙ ap (pipe_behind []) (still place y there)
    still_here there y false none = goes.no_way y none ∙ still place y there

    still_at : (x y : ℕ) → side x ≡ false → (b : Bool) → nat_eq x place ≡ b
        → pipe_at new.pipes x y ≡ new_pipe
    still_at x y there true one =
        ap (λ v. pipe_at new.pipes v y) (eqb-true x place one)
        ∙ still_here (ap side (sym (eqb-true x place one)) ∙ there) y
        (has_way old.network place y) refl
    still_at x y there false two = goes.pipes_there x y two ∙ still x y there

    nowhere_at : (x y : ℕ) → has_way old.network x y ≡ false → (b : Bool) → nat_eq x place ≡ b
        → pipe_at new.pipes x y ≡ new_pipe
    nowhere_at x y none true one =
        let none_here : has_way old.network place y ≡ false =
        ap (λ v. has_way old.network v y) (sym (eqb-true x place one)) ∙ none in
        ap (λ v. pipe_at new.pipes v y) (eqb-true x place one) ∙ goes.no_way y none_here
        ∙ no_way place y none_here
    nowhere_at x y none false two = goes.pipes_there x y two ∙ no_way x y none

    aside_then : IsAside side new
    aside_then = record {
      stays = λ x y way. stays x y (sym (goes.ways x y) ∙ way);
      still = λ x y there. still_at x y there (nat_eq x place) refl;
      no_way = λ x y none. nowhere_at x y (sym (goes.ways x y) ∙ none) (nat_eq x place) refl;
    }

-- ---- a server of the near side is asked, where all is still

abbrev written_out : ℕ → ReadEvent → ByteNetwork → ByteNetwork
written_out place read_event base =
    queues_written (node_asked place read_event (begun base.network)).state base.pipes

module _ (item : Item) (n : ℕ) (read_event : ReadEvent) (base : ByteNetwork) (view : View)
    (tidy : IsTidy base) (all : AllStill base)
    (at : server_at base.network n ≡ Some (Some view))
  where
    goes : GoesOn n (reply view read_event) base.pipes base (written_out n read_event base)
    goes = asked_goes_on n read_event view base tidy at

    pub aside_first : (side : ℕ → Bool) → ((x y : ℕ) → has_way base.network x y ≡ true
        → side x ≡ side y) → side n ≡ true → IsAside side (one_asked item n read_event base)
    aside_first side stays near =
        let it =
        aside_then side n (reply view read_event) base.pipes base
        (written_out n read_event base) goes stays (λ x y there. all x y)
        (λ x y none. all x y) (λ there y. cc (sym near ∙ there)) in record {
          stays = it.stays;
          still = it.still;
          no_way = it.no_way;
        }

    -- all is still then, but for the one way on which it puts something out
    module _ (f : ℕ)
        (on_one : (y : ℕ) → nat_eq y f ≡ false → bodies y (reply view read_event).out ≡ []) where
      still_on : (y : ℕ) → nat_eq y f ≡ false → (b : Bool) → has_way base.network n y ≡ b
          → pipe_at (one_asked item n read_event base).pipes n y ≡ new_pipe
      still_on y two true way =
          goes.pipes_here y way ∙ ap (λ ls. pipe_behind (with_ends ls) (pipe_at base.pipes n y))
          (on_one y two) ∙ ap (pipe_behind []) (all n y)
      still_on y two false none = goes.no_way y none ∙ all n y

      pub still_but_one : (x y : ℕ) → (x ≡ n → nat_eq y f ≡ false)
          → pipe_at (one_asked item n read_event base).pipes x y ≡ new_pipe
      still_but_one x y other = by (nat_eq x n) refl
        where
          by : (b : Bool) → nat_eq x n ≡ b
              → pipe_at (one_asked item n read_event base).pipes x y ≡ new_pipe
          by true one =
              ap (λ v. pipe_at (one_asked item n read_event base).pipes v y) (eqb-true x n one)
              ∙ still_on y (other (eqb-true x n one)) (has_way base.network n y) refl
          by false two = goes.pipes_there x y two ∙ all x y

-- ---- bytes come

-- of a pipe that is still none does
none_comes : (count : ℕ) (b : Bool) → come_if count b new_pipe ≡ new_pipe
none_comes count true = λ i. record { begun = begun_is i; bytes = drop-nil count i }
  where
    begun_is : begun_behind nothing_begun (take count []) ≡ nothing_begun
    begun_is = ap (begun_behind nothing_begun) (take-nil count) ∙ sym new_is_real
none_comes count false = refl

none_completed : completed nothing_begun [] ≡ []
unfolding lines
none_completed = refl

no_lines : (count : ℕ) → lines_by count new_pipe ≡ []
no_lines count = ap (completed nothing_begun) (take-nil count) ∙ none_completed

pub aside_still : (side : ℕ → Bool) (from to count : ℕ) (net : ByteNetwork) (view : View)
    → IsAside side net → IsTidy net → server_at net.network to ≡ Some (Some view)
    → IsAside side (bytes_come from to count (begun net)).state
aside_still side from to count net view aside tidy at =
    aside_then side to (all_replies from view (completed_in net from to count))
    (pipes_come net from to count) net
    (bytes_come from to count (begun net)).state
    (bytes_go_on from to count net view tidy at) aside.stays
    (λ x y there. still_along x y (aside.still x y there))
    (λ x y none. still_along x y (aside.no_way x y none))
    (λ there y. ap (λ ls. bodies y (all_replies from view ls).out)
    (ap (lines_by count) (nothing_comes side net aside to there from) ∙ no_lines count))
  where
    still_along : (x y : ℕ) → pipe_at net.pipes x y ≡ new_pipe
        → pipe_at (pipes_come net from to count) x y ≡ new_pipe
    still_along x y still =
        come_at from to count net x y ∙ ap (come_if count (nat_eq x from && nat_eq y to)) still
        ∙ none_comes count (nat_eq x from && nat_eq y to)

-- ---- a link is opened

module _ (view : View) (f y : ℕ) (two : nat_eq y f ≡ false) where
  none_else : (parts : List Written) → bodies y (on_link f parts) ≡ []
  none_else [] = refl
  none_else (first ∷ parts) =
      ap (λ b. (if b then line_body (text first) ∷ [] else []) ++ bodies y (on_link f parts))
      (nat_eq-turned f y ∙ two) ∙ none_else parts

  opened_alone : (called : Option Name) → bodies y (served view (link_up f called)).out ≡ []
  unfolding served
  opened_alone None = refl
  opened_alone (Some name) = by (is_none (password_for view name))
    where
      by : (b : Bool)
          → bodies y
          (if b then with_sent (end_of_link f reason.UnknownPeer ∷ []) (in_silence view)
          else with_sent (on_link f (opening_parts view name))
          (in_silence (with_end f (Some name) view))).out
          ≡ []
      by true = refl
      by false = none_else (opening_parts view name)

  abbrev replied : Bool → Option Name → Served
  replied b called =
      if b then record {
        state = (served view (link_up f called)).state;
        out = (served view (link_up f called)).out;
      } else record { state = view; out = [] }

  -- what a server puts out as a link is opened goes on no other
  pub link_alone : (called : Option Name) → bodies y (reply view (link_up f called)).out ≡ []
  link_alone called = by (is_none (get view.ends f))
    where
      by : (b : Bool) → bodies y (replied b called).out ≡ []
      by true = opened_alone called
      by false = refl
