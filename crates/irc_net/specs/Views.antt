-- What the code's answers say.
use Rattle.std.specs.Prelude.{ℕ, Bool, Result, Ok, Err, List}
use Rattle.std.specs.Global.{Vec}
use Rattle.irc_net.specs.declared.fault.NetFault.{NetFault}
use Rattle.irc_net.specs.declared.step.StepAnswer.{StepAnswer}
use Rattle.irc_network.specs.declared.receipt.Receipt.{Receipt as KeptReceipt}
use Rattle.irc_network.specs.Network.{Receipt}
use Rattle.irc_network.specs.Views.{receipts_of}

-- an answer is read as what it says, a refusal as itself
abbrev pub map_ok : {A B E : Type 0} → (A → B) → Result A E → Result B E
map_ok f (Ok a) = Ok (f a)
map_ok f (Err e) = Err e

abbrev pub delivered_now : Result (Bool × Vec KeptReceipt) NetFault
    → Result (Bool × List Receipt) NetFault
delivered_now = map_ok (λ (pair : Bool × Vec KeptReceipt). (pair.0, receipts_of pair.1.items))

-- how many lines or bytes came, and what clients received by them
abbrev pub counted_now : Result (ℕ × Vec KeptReceipt) NetFault → Result (ℕ × List Receipt) NetFault
counted_now = map_ok (λ (pair : ℕ × Vec KeptReceipt). (pair.0, receipts_of pair.1.items))

abbrev pub answers_now : Result (Vec StepAnswer) NetFault → Result (List StepAnswer) NetFault
answers_now = map_ok (λ (answers : Vec StepAnswer). answers.items)
