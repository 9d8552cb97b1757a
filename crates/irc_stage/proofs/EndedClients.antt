-- The client that is a user who was taken out is told why, and closed.
use Rattle.std.proofs.Common.{◌≡◌, ℕ, Option, Some, None, List, [], ◌∷◌, ◌++◌, true, is_some}
use Rattle.std.proofs.Common.{sym, ◌∙◌, ap, append-nil, append_assoc}
use Rattle.std.specs.FinMap.{remove}
use Rattle.std.specs.Borrow.{Bor}
use Rattle.std.specs.Option.{option_copied}
use Rattle.irc_users.specs.declared.user.User.{User}
use Rattle.irc_names.specs.Fold.{key}
use Rattle.irc_names.specs.Tables.{Table, row}
use Rattle.irc_batch.specs.Batches.{Batch, Sent, batch_of, end_of, line_to}
use Rattle.irc_stage.specs.declared.parts.ServerParts.{ServerParts}
use Rattle.irc_stage.specs.EffectTold.{Served, client_ended, ends_of}
use Rattle.irc_stage.specs.Handle.{to_viewer}
use Rattle.irc_stage.specs.RoomMachine.{Clients}
use Rattle.irc_stage.specs.Loops.Handling.{unseated_in}
use Rattle.irc_stage.specs.Loops.Parts.{served_at, IsIndex, IsIndexed}
use Rattle.irc_stage.proofs.Showings.{all_kept, indexed, no_ends, not_indexed, one_end, one_left}
use Rattle.irc_commands.specs.Closing.{error_line}

module _ (s : Served) (by_nick : Table ℕ) (index : IsIndex s.state.clients by_nick)
    (nick text : List ℕ) where
  abbrev lines_of : List Sent
  lines_of = to_viewer s.state.clients (record { viewer = nick; line = error_line text })
      ++ ends_of nick s.state.clients

  pub ended_nobody : row by_nick (key nick) ≡ None → s ≡ client_ended nick text s
  ended_nobody none =
      ap (λ o. record { state = s.state; out = o }) (sym (append-nil s.out))
      ∙ ap (λ lines. record { state = s.state; out = s.out ++ (lines ++ []) }) (sym (not_indexed
      s.state.clients by_nick index (record { viewer = nick; line = error_line text }) none))
      ∙ ap (λ ends. record {
        state = s.state;
        out = s.out ++ (to_viewer s.state.clients
            (record { viewer = nick; line = error_line text }) ++ ends);
      })
      (sym (no_ends s.state.clients by_nick index nick none))
      ∙ ap (λ (cs : Clients). record {
        state = record s.state { clients = cs };
        out = s.out ++ lines_of;
      }) (sym (all_kept s.state.clients by_nick index nick none))

  pub ended_by : (conn : ℕ) → row by_nick (key nick) ≡ Some conn
      → record {
        state = record s.state { clients = remove s.state.clients conn };
        out = (s.out
            ++ line_to conn (error_line text) ∷ []) ++ end_of conn ∷ [];
      } ≡ client_ended nick text s
  ended_by conn is =
      ap (λ o. record { state = record s.state { clients = remove s.state.clients conn }; out = o })
      (append_assoc s.out (line_to conn (error_line text) ∷ []) (end_of conn ∷ [])
      ∙ ap (λ lines. s.out ++ (lines ++ end_of conn ∷ [])) (sym (indexed s.state.clients by_nick
      index (record { viewer = nick; line = error_line text }) conn is))
      ∙ ap (λ ends. s.out ++ (to_viewer s.state.clients
      (record { viewer = nick; line = error_line text }) ++ ends))
      (sym (one_end s.state.clients by_nick index nick conn is)))
      ∙ ap (λ (cs : Clients). record {
        state = record s.state { clients = cs };
        out = s.out ++ lines_of;
      }) (one_left s.state.clients by_nick index nick conn is)

-- the code: its line, its end, and then it is taken out
pub ended_one : (old : ServerParts) → IsIndexed old.clients → (nick text : List ℕ) (conn : ℕ)
    → row old.clients.by_nick (key nick) ≡ Some conn → (out put closed : Batch) (line : List ℕ)
    → line ≡ error_line text → put ≡ batch_of (out.outs ++ line_to conn line ∷ []) line
    → closed ≡ record put { outs = put.outs ++ end_of conn ∷ [] }
    → unseated_in conn (served_at old closed.outs) ≡ client_ended nick text (served_at old out.outs)
ended_one old index nick text conn is out put closed line line_is put_is closed_is =
    ap (λ o. unseated_in conn (served_at old o))
    (ap (λ (b : Batch). b.outs) closed_is ∙ ap (λ (b : Batch). b.outs ++ end_of conn ∷ []) put_is
    ∙ ap (λ l. (out.outs ++ line_to conn l ∷ []) ++ end_of conn ∷ []) line_is)
    ∙ ended_by (served_at old out.outs) old.clients.by_nick index nick text conn is

-- a user that the code has found is there
pub some_there : (found : Option (Bor User)) (o : Option User) → option_copied found ≡ o
    → is_some found ≡ true → is_some o ≡ true
some_there None o is some = absurd (cc some)
some_there (Some user) o is some = ap is_some (sym is)
