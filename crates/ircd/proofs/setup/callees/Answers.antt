use Rattle.ircd.proofs.SettingUp.{calls_lost, left_behind, left_here, left_nobody}
use Rattle.ircd.proofs.setup.callees.Goals as goal

pub returns-in_err-callee_of : goal.returns-in_err-callee_of
returns-in_err-callee_of c =
    left_here c.loop-peer.rest.now c.args.peers.now c.in-Some.more.now c.in-Some.peer.now
    c.loop-peer.callees.items
    c.from_residual.result c.in_err-callee_of.field-0.0 c.in-Some.ensures.cases.0
    c.in_err-callee_of.ensures
    c.loop-peer.invariant c.from_residual.ensures.1

pub returns-in_err-add_callee : goal.returns-in_err-add_callee
returns-in_err-add_callee c = calls_lost c.args.peers.now c.from_residual-in_err-add_callee.result
    c.from_residual-in_err-add_callee.ensures.1

pub loop-peer-preserved : goal.loop-peer-preserved
loop-peer-preserved c =
    left_behind c.loop-peer.rest.now c.args.peers.now c.in-Some.more.now c.in-Some.peer.now
    c.in_ok-callee_of.field-0
    c.loop-peer.callees.items c.add_callee.new.callees.items c.in-Some.ensures.cases.0
    c.in_ok-callee_of.ensures
    c.in_ok-add_callee.ensures c.loop-peer.invariant

pub returns : goal.returns
returns c = left_nobody c.loop-peer.rest.now c.args.peers.now c.loop-peer.callees.items
    c.in_default.ensures.cases c.loop-peer.invariant
