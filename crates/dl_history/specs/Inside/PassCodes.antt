-- How passes and tickets are told apart: a code for each, the tuple of what it has.
use Rattle.std.specs.Prelude.{ℕ, Bool, List, Option, refl}
use Rattle.std.specs.Coded.{Coded, code_by, coded_ℕ, coded_bool, coded_list, coded_option, coded×}
use Rattle.dl_desk.specs.declared.reply.LoadReply.{LoadReply}
use Rattle.dl_desk.specs.contracts.reply.LoadReply as reply
use Rattle.dl_desk.specs.declared.event.Ending.{Ending}
use Rattle.dl_desk.specs.contracts.event.Ending as ending
use Rattle.dl_history.specs.Entries.{Entry}
use Rattle.dl_history.specs.Inside.Codes.{entry_code}
use Rattle.dl_history.specs.declared.pass.GivenTicket.{GivenTicket}
use Rattle.dl_history.specs.contracts.pass.GivenTicket as given
use Rattle.dl_history.specs.Flags.{KnownFlags, known_flags}
use Rattle.dl_history.specs.Pass.{Trace, trace, Pass, Ticket, ticket}

-- a trace, by its caller, its entries and its tickets
abbrev pub trace_code : Coded Trace
trace_code = code_by (ℕ × (List Entry × List GivenTicket)) (coded× coded_ℕ (coded× (coded_list entry_code) (coded_list given.the_row.coded)))
    (λ p. (p.caller, (p.entries, p.tickets))) (λ q. trace q.0 q.1.0 q.1.1) (λ _. refl)

-- what is known of the flags, by the two of them
abbrev pub flags_code : Coded KnownFlags
flags_code = code_by (Bool × Bool) (coded× coded_bool coded_bool) (λ f. (f.stopped, f.refused)) (λ q. known_flags q.0 q.1) (λ _. refl)

-- a pass, by its trace, its room and what is known of the flags
abbrev pub pass_code : Coded Pass
pass_code = code_by (Trace × (ℕ × KnownFlags)) (coded× trace_code (coded× coded_ℕ flags_code)) (λ p. (p.trace, (p.spare, p.flags)))
    (λ q. record { trace = q.0; spare = q.1.0; flags = q.1.1 }) (λ _. refl)

-- a ticket, by its number, its reply and what it knows
abbrev pub ticket_code : Coded Ticket
ticket_code = code_by (ℕ × (LoadReply × Option Ending)) (coded× coded_ℕ (coded× reply.the_row.coded (coded_option ending.the_row.coded)))
    (λ t. (t.number, (t.reply, t.known))) (λ p. ticket p.0 p.1.0 p.1.1) (λ _. refl)
