use Rattle.irc_room.specs.Lemmas.Rows.{found_also}
use Rattle.irc_server.proofs.WhatEventsDo.{connected_by, gone_by, heard_by, lost_by, matched_after}
use Rattle.irc_server.proofs.WhatEventsDo.{not_connected, not_open, opened_by, said_by}
use Rattle.std.proofs.Common.{◌≡◌, ◌∙◌, None, subst, sym}
use Rattle.std.specs.FinMap.{get}
use Rattle.irc_server.proofs.acting.act.Goals as goal

pub on_connect-requires : goal.on_connect-requires
on_connect-requires c = record {
  new = subst (λ conn. get c.args.stage.clients conn ≡ None) (sym c.of.ensures)
      (not_connected c.args.stage c.args.event.now c.in-Connect.conn c.in-Connect.host
      c.in-Connect.is c.requires.granted);
}

pub open_link-requires : goal.open_link-requires
open_link-requires c = record {
  new = subst (λ link. get c.args.stage.ends link ≡ None) (sym c.of-in-LinkUp.ensures)
      (not_open c.args.stage c.args.event.now c.in-LinkUp.link c.in-LinkUp.starts
      c.in-LinkUp.is c.requires.granted);
}

pub settle-requires : goal.settle-requires
settle-requires c = record {
  matched = matched_after c.stays_matched.ensures.server c.args.stage c.args.event.now _
      c.know_serving.ensures.matched c.know_serving.ensures.well_formed c.requires.granted
      (connected_by c.args.stage c.args.event.now c.in-Connect.conn c.of.result c.in-Connect.host
      c.copy.result _ c.in-Connect.is c.of.ensures c.copy.ensures
      c.in_ok-on_connect-in-Connect.ensures);
}

pub settle-requires-in-Line : goal.settle-requires-in-Line
settle-requires-in-Line c = record {
  matched = matched_after c.stays_matched.ensures.server c.args.stage c.args.event.now _
      c.know_serving.ensures.matched c.know_serving.ensures.well_formed c.requires.granted
      (said_by c.args.stage c.args.event.now c.in-Line.conn c.of-in-Line.result c.in-Line.line _
      c.in-Line.is c.of-in-Line.ensures c.in_ok-on_line-in-Line.ensures);
}

pub settle-requires-in-Gone : goal.settle-requires-in-Gone
settle-requires-in-Gone c = record {
  matched = matched_after c.stays_matched.ensures.server c.args.stage c.args.event.now _
      c.know_serving.ensures.matched c.know_serving.ensures.well_formed c.requires.granted
      (gone_by c.args.stage c.args.event.now c.in-Gone.conn c.of-in-Gone.result _
      c.in-Gone.is c.of-in-Gone.ensures c.in_ok-on_gone-in-Gone.ensures);
}

pub returns-in_ok-on_connect-in-Connect : goal.returns-in_ok-on_connect-in-Connect
returns-in_ok-on_connect-in-Connect c =
    c.settle.ensures
    ∙ connected_by c.args.stage c.args.event.now c.in-Connect.conn c.of.result c.in-Connect.host
    c.copy.result _ c.in-Connect.is c.of.ensures c.copy.ensures
    c.in_ok-on_connect-in-Connect.ensures

pub returns-in_ok-on_line-in-Line : goal.returns-in_ok-on_line-in-Line
returns-in_ok-on_line-in-Line c =
    c.settle-in-Line.ensures
    ∙ said_by c.args.stage c.args.event.now c.in-Line.conn c.of-in-Line.result c.in-Line.line _
    c.in-Line.is c.of-in-Line.ensures c.in_ok-on_line-in-Line.ensures

pub returns-in_ok-on_gone-in-Gone : goal.returns-in_ok-on_gone-in-Gone
returns-in_ok-on_gone-in-Gone c =
    c.settle-in-Gone.ensures
    ∙ gone_by c.args.stage c.args.event.now c.in-Gone.conn c.of-in-Gone.result _
    c.in-Gone.is c.of-in-Gone.ensures c.in_ok-on_gone-in-Gone.ensures

pub returns-in-LinkUp : goal.returns-in-LinkUp
returns-in-LinkUp c = found_also c.open_link.result
    (λ done is. opened_by c.args.stage c.args.event.now c.in-LinkUp.link c.of-in-LinkUp.result
    c.in-LinkUp.starts c.copied.result done c.in-LinkUp.is c.of-in-LinkUp.ensures c.copied.ensures
    is)
    c.open_link.ensures

pub returns-in-LinkLine : goal.returns-in-LinkLine
returns-in-LinkLine c = found_also c.hear_line.result
    (λ done is. heard_by c.args.stage c.args.event.now c.in-LinkLine.link c.of-in-LinkLine.result
    c.in-LinkLine.line c.deref.result.now done c.in-LinkLine.is c.of-in-LinkLine.ensures
    c.deref.ensures.0 is)
    c.hear_line.ensures

pub returns-in-LinkDown : goal.returns-in-LinkDown
returns-in-LinkDown c = found_also c.lose_link.result
    (λ done is. lost_by c.args.stage c.args.event.now c.in-LinkDown.link c.of-in-LinkDown.result
    c.begin.result done c.in-LinkDown.is c.of-in-LinkDown.ensures c.begin.ensures is)
    c.lose_link.ensures
