-- What a command makes of its input: what it writes, or where the input breaks its grammar.
use Rattle.std.specs.Prelude.{◌≡◌, ℕ, ◌≤◌, List, [], ◌∷◌, ◌++◌, length, true, ⊤, Result, Ok, Err, codes}
use Rattle.kn_io.specs.declared.no_memory.NoMemory.{NoMemory as MemoryRanOut}
use Rattle.kn_packet.specs.declared.packet.Packet.{Packet}
use Rattle.kn_packet.specs.declared.fault.PacketFault.{PacketFault}
use Rattle.kn_packet.specs.Reading.{Reads}
use Rattle.kn_packet.specs.Faults.{HasFault}
use Rattle.kn_packet.specs.Lines.{line_of, text_of}
use Rattle.kn_frames.specs.declared.listing.ListingFault.{ListingFault}
use Rattle.kn_frames.specs.Listings.{listing, reason_text}
use Rattle.kn_route.specs.LinkLists.{LinkList}
use Rattle.kn_route.specs.declared.link.Link.{Link}
use Rattle.kn_route.specs.declared.strategy.Strategy.{Strategy}
use Rattle.kn_route.specs.Choice.{pick}
use Rattle.kn_route.specs.Listing.{links_in, printed_choice}
use Rattle.kn_world.specs.declared.event.WorldEvent.{WorldEvent}
use Rattle.kn_world.specs.declared.state.State.{State}
use Rattle.kn_world.specs.Events.{Runs}
use Rattle.kn_world.specs.States.{start}
use Rattle.kn_world.specs.Views.{shown}
use Rattle.kn_refinement.specs.Chosen.{agents_in}
use Rattle.kn_refinement.specs.Ends.{NoEndIsDue}
use Rattle.kn_refinement.specs.Headline.{KeepsPromises}
use Rattle.kn_refinement.specs.OwnBytes.{SendsOwn, app_bytes, dial_bytes}
use Rattle.kn_refinement.specs.Quiet.{IsAtRest}
use Rattle.kn_refinement.specs.Refusals.{RefusesUnanswered}
use Rattle.kn_script.specs.Lines.{lines_of}
use Rattle.kn_script.specs.Script.{script_of}
use Rattle.kn_script.specs.Texts.{text_of_reason}
use Rattle.kn_script.specs.Report.{report_of}
use Rattle.kn_script.specs.declared.fault.ScriptFault.{ScriptFault}
use Rattle.kn_cmd.specs.Messages.{line_message, offset_message}
use Rattle.kn_cmd.specs.declared.command.Command.{Command}
use Rattle.kn_cmd.specs.declared.command.Command.TheVariants.{Replay, Show, Frames, Route}
use Rattle.kn_cmd.specs.declared.question.Question.{Question}
use Rattle.kn_cmd.specs.declared.outcome.Outcome.{Outcome}
use Rattle.kn_cmd.specs.declared.outcome.Outcome.TheVariants.{Output, Refused, TooLong, NoMemory}

-- the most lines of a script
abbrev pub line_limit : ℕ
line_limit = 10000

-- The text is the report of a world that these events reach, one after another, from the one in which nothing
-- has happened and dials go by these strategies. This world keeps its promises: bytes stay apart, no two dials are
-- of one app, connections are accounted for, each tunnel is in its tables, each dial has a choice of its own, which
-- is what these strategies pick among links of the agents that these events bring, and once all is quiet and closed
-- nothing is left. An app with a choice that has no answer was refused. What each side sent is what the events gave
-- it, and no end is due. Where the report says `quiet yes`, it is at rest.
pub record ReportsRun (strategies : List Strategy) (events : List WorldEvent) (text : List ℕ) : Type 0 where
  pub world : State
  pub idle : ℕ
  pub reached : Runs events (start strategies) idle world
  pub report : text ≡ report_of (shown world) idle
  pub promises : KeepsPromises strategies (agents_in events) world
  -- each app with a choice that has no answer was refused, or its refusal is on its way, or its client has lost the stream
  pub refused : RefusesUnanswered world
  -- each app and each destination sent the bytes of the events that were not idle for it, and no others
  pub own_bytes : SendsOwn (app_bytes events (start strategies) idle world reached) (dial_bytes events (start strategies) idle world reached) world
  -- each that ended its sending has told so, once no byte of it waits
  pub ends : NoEndIsDue world
  -- where it says that all is quiet, the world is at rest
  pub quiet : (shown world).quiet ≡ true → IsAtRest world

-- the line of the choice that a question asks for, among these links
abbrev pub choice_line : Question → List Link → List ℕ
choice_line question links = printed_choice (pick question.strategies links question.host question.dial)

-- the input has no more lines than a command reads
abbrev pub HasFewLines : Command → List ℕ → Type 0
HasFewLines (Replay strategies) bytes = length (lines_of bytes) ≤ line_limit
HasFewLines Show bytes = ⊤
HasFewLines Frames bytes = ⊤
HasFewLines (Route question) bytes = ⊤

-- what a command writes for an input
abbrev pub Answers : Command → List ℕ → List ℕ → Type 0
Answers (Replay strategies) bytes text = (events : List WorldEvent) × (script_of bytes ≡ Ok events) × ReportsRun strategies events text
Answers Show bytes text = (packet : Packet) × Reads bytes packet × (text ≡ line_of packet ++ 10 ∷ [])
Answers Frames bytes text = listing bytes ≡ Ok text
Answers (Route question) bytes text = (list : LinkList) × (links_in bytes ≡ Ok list) × (text ≡ choice_line question list.links)

-- what a command tells of an input that breaks its grammar
abbrev pub Refuses : Command → List ℕ → List ℕ → Type 0
Refuses (Replay strategies) bytes message = (fault : ScriptFault) × (script_of bytes ≡ Err fault) × (message ≡ line_message fault.line (text_of_reason fault.reason))
Refuses Show bytes message = (fault : PacketFault) × HasFault bytes fault × (message ≡ offset_message fault.place (text_of fault.reason))
Refuses Frames bytes message = (fault : ListingFault) × (listing bytes ≡ Err fault) × (message ≡ offset_message fault.offset (reason_text fault.reason))
Refuses (Route question) bytes message = (number : ℕ) × (links_in bytes ≡ Err number) × (message ≡ line_message number (codes "bad identifiers"))

-- what comes of an input
abbrev pub ComesOf : Command → List ℕ → Outcome → Type 0
ComesOf command bytes (Output text) = HasFewLines command bytes × Answers command bytes text
ComesOf command bytes (Refused message) = HasFewLines command bytes × Refuses command bytes message
ComesOf command bytes TooLong = ¬ HasFewLines command bytes
ComesOf command bytes NoMemory = ⊤

-- the outcome of a text that is to be written, or for which memory ran out
abbrev pub IsWritten : Result (List ℕ) MemoryRanOut → Outcome → Type 0
IsWritten (Ok text) outcome = outcome ≡ Output text
IsWritten (Err error) outcome = outcome ≡ NoMemory

-- the outcome of a refusal whose message was made, or for which memory ran out
abbrev pub IsRefused : Result (List ℕ) MemoryRanOut → Outcome → Type 0
IsRefused (Ok message) outcome = outcome ≡ Refused message
IsRefused (Err error) outcome = outcome ≡ NoMemory
