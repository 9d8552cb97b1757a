use Rattle.std.proofs.Common.{◌<◌, length, subst, arith}
use Rattle.irc_names.specs.Names.{is_nick}
use Rattle.irc_burst.specs.DeedsMeant.{member_of}
use Rattle.irc_burst.proofs.MemberWords.{stops, goes_on, ends}
use Rattle.irc_burst.proofs.member_words.are_nicks.Goals as goal

pub returns-then-not-has_nick : goal.returns-then-not-has_nick
returns-then-not-has_nick c =
    stops (λ word. is_nick (member_of word).0) c.loop-rest.rest.now _ c.loop-rest.invariant
    c.before_comma.result.now _
    (subst (λ n. n < length c.loop-rest.rest.now) c.first_comma.ensures c.loop-rest-test.true)
    c.before_comma.ensures c.has_nick.ensures c.if-not-has_nick.true

pub loop-rest-preserved : goal.loop-rest-preserved
loop-rest-preserved c =
    goes_on (λ word. is_nick (member_of word).0) c.loop-rest.rest.now _ c.loop-rest.invariant
    c.before_comma.result.now c.after_comma-rest.result.now _
    (subst (λ n. n < length c.loop-rest.rest.now) c.first_comma.ensures c.loop-rest-test.true)
    c.before_comma.ensures c.has_nick.ensures c.if-not-has_nick.false
    c.after_comma-rest.ensures

pub returns : goal.returns
returns c =
    ends (λ word. is_nick (member_of word).0) c.loop-rest.rest.now _ c.loop-rest.invariant _
    (let is = c.first_comma.ensures in let past = c.loop-rest-test.false in
    omega (arith, is, past)) c.has_nick-2.ensures
