-- Readings that say no choice.
use Rattle.std.proofs.Common.{◌≡◌, ◌≢◌, ◌∙◌, ap, sym, arith, codes, List, ℕ, Some, None, slice_index}
use Rattle.std.specs.Borrow.{Bor}
use Rattle.clap.specs.Walk.{Row, Text, first_of}
use Rattle.zvt_tool.specs.Chosen.{HasNoChoice, IsCommandOf}
use Rattle.zvt_tool.specs.Given.{GivesNumber, IsNumberOf}
use Rattle.zvt_tool.specs.declared.choices.Choice.{Choice}
use Rattle.zvt_tool.specs.declared.choices.Choice.TheVariants.{Audit, Book, CheckTerminal, CheckTill, Join, Loop, Normalise, Play, Receipts, Report, Serve, Show, Tap, Terminal, Till, Vectors}

-- texts that differ in a letter
other_first : (name text : Text) → (slice_index name 0 ≢ slice_index text 0) → (name ≢ text)
other_first name text differ e = differ (ap (λ (t : Text). slice_index t 0) e)

other_second : (name text : Text) → (slice_index name 1 ≢ slice_index text 1) → (name ≢ text)
other_second name text differ e = differ (ap (λ (t : Text). slice_index t 1) e)

other_at : (place : ℕ) (name text : Text) → (slice_index name place ≢ slice_index text place) → (name ≢ text)
other_at place name text differ e = differ (ap (λ (t : Text). slice_index t place) e)

till_has : (rows : List Row) (choice : Choice) → IsCommandOf (codes "till") rows choice
    → ((port timeout : ℕ) → GivesNumber (codes "port") rows 65535 port → GivesNumber (codes "timeout") rows 65535 timeout → ⊥) → ⊥
till_has rows (Show options) said lacks = other_first (codes "till") (codes "show") (λ e. omega (arith, e)) said.0
till_has rows (Serve options) said lacks = other_first (codes "till") (codes "serve") (λ e. omega (arith, e)) said.0
till_has rows (Join options) said lacks = other_first (codes "till") (codes "join") (λ e. omega (arith, e)) said.0
till_has rows (Normalise options) said lacks = other_first (codes "till") (codes "normalise") (λ e. omega (arith, e)) said.0
till_has rows (Audit options) said lacks = other_first (codes "till") (codes "audit") (λ e. omega (arith, e)) said.0
till_has rows (Report options) said lacks = other_first (codes "till") (codes "report") (λ e. omega (arith, e)) said.0
till_has rows (Receipts options) said lacks = other_first (codes "till") (codes "receipts") (λ e. omega (arith, e)) said.0
till_has rows (Tap options) said lacks = other_second (codes "till") (codes "tap") (λ e. omega (arith, e)) said.0
till_has rows (Play options) said lacks = other_first (codes "till") (codes "play") (λ e. omega (arith, e)) said.0
till_has rows (CheckTill options) said lacks = other_first (codes "till") (codes "check-till") (λ e. omega (arith, e)) said.0
till_has rows (CheckTerminal options) said lacks = other_first (codes "till") (codes "check-terminal") (λ e. omega (arith, e)) said.0
till_has rows (Vectors options) said lacks = other_first (codes "till") (codes "vectors") (λ e. omega (arith, e)) said.0
till_has rows (Book files json records) said lacks = other_first (codes "till") (codes "book") (λ e. omega (arith, e)) said.0
till_has rows (Loop trace no_times book check json steps) said lacks = other_first (codes "till") (codes "loop") (λ e. omega (arith, e)) said.0
till_has rows (Till options) said lacks = lacks options.port options.timeout said.1.port said.1.timeout
till_has rows (Terminal options) said lacks = other_second (codes "till") (codes "terminal") (λ e. omega (arith, e)) said.0

till_has_host : (rows : List Row) (choice : Choice) → IsCommandOf (codes "till") rows choice → first_of (codes "host") rows ≢ None
till_has_host rows (Show options) said lacks = other_first (codes "till") (codes "show") (λ e. omega (arith, e)) said.0
till_has_host rows (Serve options) said lacks = other_first (codes "till") (codes "serve") (λ e. omega (arith, e)) said.0
till_has_host rows (Join options) said lacks = other_first (codes "till") (codes "join") (λ e. omega (arith, e)) said.0
till_has_host rows (Normalise options) said lacks = other_first (codes "till") (codes "normalise") (λ e. omega (arith, e)) said.0
till_has_host rows (Audit options) said lacks = other_first (codes "till") (codes "audit") (λ e. omega (arith, e)) said.0
till_has_host rows (Report options) said lacks = other_first (codes "till") (codes "report") (λ e. omega (arith, e)) said.0
till_has_host rows (Receipts options) said lacks = other_first (codes "till") (codes "receipts") (λ e. omega (arith, e)) said.0
till_has_host rows (Tap options) said lacks = other_second (codes "till") (codes "tap") (λ e. omega (arith, e)) said.0
till_has_host rows (Play options) said lacks = other_first (codes "till") (codes "play") (λ e. omega (arith, e)) said.0
till_has_host rows (CheckTill options) said lacks = other_first (codes "till") (codes "check-till") (λ e. omega (arith, e)) said.0
till_has_host rows (CheckTerminal options) said lacks = other_first (codes "till") (codes "check-terminal") (λ e. omega (arith, e)) said.0
till_has_host rows (Vectors options) said lacks = other_first (codes "till") (codes "vectors") (λ e. omega (arith, e)) said.0
till_has_host rows (Book files json records) said lacks = other_first (codes "till") (codes "book") (λ e. omega (arith, e)) said.0
till_has_host rows (Loop trace no_times book check json steps) said lacks = other_first (codes "till") (codes "loop") (λ e. omega (arith, e)) said.0
till_has_host rows (Till options) said lacks = let bad : Some options.host.now ≡ None = sym said.1.host ∙ lacks in cc
till_has_host rows (Terminal options) said lacks = other_second (codes "till") (codes "terminal") (λ e. omega (arith, e)) said.0

terminal_has_host : (rows : List Row) (choice : Choice) → IsCommandOf (codes "terminal") rows choice → first_of (codes "host") rows ≢ None
terminal_has_host rows (Show options) said lacks = other_first (codes "terminal") (codes "show") (λ e. omega (arith, e)) said.0
terminal_has_host rows (Serve options) said lacks = other_first (codes "terminal") (codes "serve") (λ e. omega (arith, e)) said.0
terminal_has_host rows (Join options) said lacks = other_first (codes "terminal") (codes "join") (λ e. omega (arith, e)) said.0
terminal_has_host rows (Normalise options) said lacks = other_first (codes "terminal") (codes "normalise") (λ e. omega (arith, e)) said.0
terminal_has_host rows (Audit options) said lacks = other_first (codes "terminal") (codes "audit") (λ e. omega (arith, e)) said.0
terminal_has_host rows (Report options) said lacks = other_first (codes "terminal") (codes "report") (λ e. omega (arith, e)) said.0
terminal_has_host rows (Receipts options) said lacks = other_first (codes "terminal") (codes "receipts") (λ e. omega (arith, e)) said.0
terminal_has_host rows (Tap options) said lacks = other_second (codes "terminal") (codes "tap") (λ e. omega (arith, e)) said.0
terminal_has_host rows (Play options) said lacks = other_first (codes "terminal") (codes "play") (λ e. omega (arith, e)) said.0
terminal_has_host rows (CheckTill options) said lacks = other_first (codes "terminal") (codes "check-till") (λ e. omega (arith, e)) said.0
terminal_has_host rows (CheckTerminal options) said lacks = other_first (codes "terminal") (codes "check-terminal") (λ e. omega (arith, e)) said.0
terminal_has_host rows (Vectors options) said lacks = other_first (codes "terminal") (codes "vectors") (λ e. omega (arith, e)) said.0
terminal_has_host rows (Book files json records) said lacks = other_first (codes "terminal") (codes "book") (λ e. omega (arith, e)) said.0
terminal_has_host rows (Loop trace no_times book check json steps) said lacks = other_first (codes "terminal") (codes "loop") (λ e. omega (arith, e)) said.0
terminal_has_host rows (Till options) said lacks = other_second (codes "terminal") (codes "till") (λ e. omega (arith, e)) said.0
terminal_has_host rows (Terminal options) said lacks = let bad : Some options.host.now ≡ None = sym said.1.host ∙ lacks in cc

terminal_has : (rows : List Row) (choice : Choice) → IsCommandOf (codes "terminal") rows choice
    → ((port tid connections delay : ℕ) → GivesNumber (codes "port") rows 65535 port → GivesNumber (codes "tid") rows 99999999 tid → GivesNumber (codes "connections") rows 65535 connections
    → GivesNumber (codes "delay") rows 65535 delay → ⊥) → ⊥
terminal_has rows (Show options) said lacks = other_first (codes "terminal") (codes "show") (λ e. omega (arith, e)) said.0
terminal_has rows (Serve options) said lacks = other_first (codes "terminal") (codes "serve") (λ e. omega (arith, e)) said.0
terminal_has rows (Join options) said lacks = other_first (codes "terminal") (codes "join") (λ e. omega (arith, e)) said.0
terminal_has rows (Normalise options) said lacks = other_first (codes "terminal") (codes "normalise") (λ e. omega (arith, e)) said.0
terminal_has rows (Audit options) said lacks = other_first (codes "terminal") (codes "audit") (λ e. omega (arith, e)) said.0
terminal_has rows (Report options) said lacks = other_first (codes "terminal") (codes "report") (λ e. omega (arith, e)) said.0
terminal_has rows (Receipts options) said lacks = other_first (codes "terminal") (codes "receipts") (λ e. omega (arith, e)) said.0
terminal_has rows (Tap options) said lacks = other_second (codes "terminal") (codes "tap") (λ e. omega (arith, e)) said.0
terminal_has rows (Play options) said lacks = other_first (codes "terminal") (codes "play") (λ e. omega (arith, e)) said.0
terminal_has rows (CheckTill options) said lacks = other_first (codes "terminal") (codes "check-till") (λ e. omega (arith, e)) said.0
terminal_has rows (CheckTerminal options) said lacks = other_first (codes "terminal") (codes "check-terminal") (λ e. omega (arith, e)) said.0
terminal_has rows (Vectors options) said lacks = other_first (codes "terminal") (codes "vectors") (λ e. omega (arith, e)) said.0
terminal_has rows (Book files json records) said lacks = other_first (codes "terminal") (codes "book") (λ e. omega (arith, e)) said.0
terminal_has rows (Loop trace no_times book check json steps) said lacks = other_first (codes "terminal") (codes "loop") (λ e. omega (arith, e)) said.0
terminal_has rows (Till options) said lacks = other_second (codes "terminal") (codes "till") (λ e. omega (arith, e)) said.0
terminal_has rows (Terminal options) said lacks = lacks options.port options.tid options.connections options.delay said.1.port said.1.tid said.1.connections said.1.delay

tap_has : (rows : List Row) (choice : Choice) → IsCommandOf (codes "tap") rows choice
    → ((listen to : Bor Text) (connections : ℕ) → first_of (codes "listen") rows ≡ Some listen.now → first_of (codes "to") rows ≡ Some to.now → GivesNumber (codes "connections") rows 65535 connections → ⊥) → ⊥
tap_has rows (Show options) said lacks = other_first (codes "tap") (codes "show") (λ e. omega (arith, e)) said.0
tap_has rows (Serve options) said lacks = other_first (codes "tap") (codes "serve") (λ e. omega (arith, e)) said.0
tap_has rows (Join options) said lacks = other_first (codes "tap") (codes "join") (λ e. omega (arith, e)) said.0
tap_has rows (Normalise options) said lacks = other_first (codes "tap") (codes "normalise") (λ e. omega (arith, e)) said.0
tap_has rows (Audit options) said lacks = other_first (codes "tap") (codes "audit") (λ e. omega (arith, e)) said.0
tap_has rows (Report options) said lacks = other_first (codes "tap") (codes "report") (λ e. omega (arith, e)) said.0
tap_has rows (Receipts options) said lacks = other_first (codes "tap") (codes "receipts") (λ e. omega (arith, e)) said.0
tap_has rows (Play options) said lacks = other_first (codes "tap") (codes "play") (λ e. omega (arith, e)) said.0
tap_has rows (CheckTill options) said lacks = other_first (codes "tap") (codes "check-till") (λ e. omega (arith, e)) said.0
tap_has rows (CheckTerminal options) said lacks = other_first (codes "tap") (codes "check-terminal") (λ e. omega (arith, e)) said.0
tap_has rows (Vectors options) said lacks = other_first (codes "tap") (codes "vectors") (λ e. omega (arith, e)) said.0
tap_has rows (Book files json records) said lacks = other_first (codes "tap") (codes "book") (λ e. omega (arith, e)) said.0
tap_has rows (Loop trace no_times book check json steps) said lacks = other_first (codes "tap") (codes "loop") (λ e. omega (arith, e)) said.0
tap_has rows (Till options) said lacks = other_second (codes "tap") (codes "till") (λ e. omega (arith, e)) said.0
tap_has rows (Terminal options) said lacks = other_second (codes "tap") (codes "terminal") (λ e. omega (arith, e)) said.0
tap_has rows (Tap options) said lacks = lacks options.listen options.to options.connections said.1.listen said.1.to said.1.connections

play_has_host : (rows : List Row) (choice : Choice) → IsCommandOf (codes "play") rows choice → first_of (codes "host") rows ≢ None
play_has_host rows (Show options) said lacks = other_first (codes "play") (codes "show") (λ e. omega (arith, e)) said.0
play_has_host rows (Serve options) said lacks = other_first (codes "play") (codes "serve") (λ e. omega (arith, e)) said.0
play_has_host rows (Join options) said lacks = other_first (codes "play") (codes "join") (λ e. omega (arith, e)) said.0
play_has_host rows (Normalise options) said lacks = other_first (codes "play") (codes "normalise") (λ e. omega (arith, e)) said.0
play_has_host rows (Audit options) said lacks = other_first (codes "play") (codes "audit") (λ e. omega (arith, e)) said.0
play_has_host rows (Report options) said lacks = other_first (codes "play") (codes "report") (λ e. omega (arith, e)) said.0
play_has_host rows (Receipts options) said lacks = other_first (codes "play") (codes "receipts") (λ e. omega (arith, e)) said.0
play_has_host rows (CheckTill options) said lacks = other_first (codes "play") (codes "check-till") (λ e. omega (arith, e)) said.0
play_has_host rows (CheckTerminal options) said lacks = other_first (codes "play") (codes "check-terminal") (λ e. omega (arith, e)) said.0
play_has_host rows (Vectors options) said lacks = other_first (codes "play") (codes "vectors") (λ e. omega (arith, e)) said.0
play_has_host rows (Book files json records) said lacks = other_first (codes "play") (codes "book") (λ e. omega (arith, e)) said.0
play_has_host rows (Loop trace no_times book check json steps) said lacks = other_first (codes "play") (codes "loop") (λ e. omega (arith, e)) said.0
play_has_host rows (Till options) said lacks = other_first (codes "play") (codes "till") (λ e. omega (arith, e)) said.0
play_has_host rows (Terminal options) said lacks = other_first (codes "play") (codes "terminal") (λ e. omega (arith, e)) said.0
play_has_host rows (Tap options) said lacks = other_first (codes "play") (codes "tap") (λ e. omega (arith, e)) said.0
play_has_host rows (Play options) said lacks = let bad : Some options.host.now ≡ None = sym said.1.host ∙ lacks in cc

check_till_has : (rows : List Row) (choice : Choice) → IsCommandOf (codes "check-till") rows choice
    → ((port : ℕ) (host : Bor Text) → GivesNumber (codes "listen") rows 65535 port → first_of (codes "host") rows ≡ Some host.now → ⊥) → ⊥
check_till_has rows (Show options) said lacks = other_first (codes "check-till") (codes "show") (λ e. omega (arith, e)) said.0
check_till_has rows (Serve options) said lacks = other_first (codes "check-till") (codes "serve") (λ e. omega (arith, e)) said.0
check_till_has rows (Join options) said lacks = other_first (codes "check-till") (codes "join") (λ e. omega (arith, e)) said.0
check_till_has rows (Normalise options) said lacks = other_first (codes "check-till") (codes "normalise") (λ e. omega (arith, e)) said.0
check_till_has rows (Audit options) said lacks = other_first (codes "check-till") (codes "audit") (λ e. omega (arith, e)) said.0
check_till_has rows (Report options) said lacks = other_first (codes "check-till") (codes "report") (λ e. omega (arith, e)) said.0
check_till_has rows (Receipts options) said lacks = other_first (codes "check-till") (codes "receipts") (λ e. omega (arith, e)) said.0
check_till_has rows (Vectors options) said lacks = other_first (codes "check-till") (codes "vectors") (λ e. omega (arith, e)) said.0
check_till_has rows (Book files json records) said lacks = other_first (codes "check-till") (codes "book") (λ e. omega (arith, e)) said.0
check_till_has rows (Loop trace no_times book check json steps) said lacks = other_first (codes "check-till") (codes "loop") (λ e. omega (arith, e)) said.0
check_till_has rows (Till options) said lacks = other_first (codes "check-till") (codes "till") (λ e. omega (arith, e)) said.0
check_till_has rows (Terminal options) said lacks = other_first (codes "check-till") (codes "terminal") (λ e. omega (arith, e)) said.0
check_till_has rows (Tap options) said lacks = other_first (codes "check-till") (codes "tap") (λ e. omega (arith, e)) said.0
check_till_has rows (Play options) said lacks = other_first (codes "check-till") (codes "play") (λ e. omega (arith, e)) said.0
check_till_has rows (CheckTerminal options) said lacks = other_at 7 (codes "check-till") (codes "check-terminal") (λ e. omega (arith, e)) said.0
check_till_has rows (CheckTill options) said lacks = lacks options.port options.host said.1.gives_port said.1.host

check_terminal_has : (rows : List Row) (choice : Choice) → IsCommandOf (codes "check-terminal") rows choice
    → ((port : ℕ) (host : Bor Text) → GivesNumber (codes "port") rows 65535 port → first_of (codes "host") rows ≡ Some host.now → ⊥) → ⊥
check_terminal_has rows (Show options) said lacks = other_first (codes "check-terminal") (codes "show") (λ e. omega (arith, e)) said.0
check_terminal_has rows (Serve options) said lacks = other_first (codes "check-terminal") (codes "serve") (λ e. omega (arith, e)) said.0
check_terminal_has rows (Join options) said lacks = other_first (codes "check-terminal") (codes "join") (λ e. omega (arith, e)) said.0
check_terminal_has rows (Normalise options) said lacks = other_first (codes "check-terminal") (codes "normalise") (λ e. omega (arith, e)) said.0
check_terminal_has rows (Audit options) said lacks = other_first (codes "check-terminal") (codes "audit") (λ e. omega (arith, e)) said.0
check_terminal_has rows (Report options) said lacks = other_first (codes "check-terminal") (codes "report") (λ e. omega (arith, e)) said.0
check_terminal_has rows (Receipts options) said lacks = other_first (codes "check-terminal") (codes "receipts") (λ e. omega (arith, e)) said.0
check_terminal_has rows (Vectors options) said lacks = other_first (codes "check-terminal") (codes "vectors") (λ e. omega (arith, e)) said.0
check_terminal_has rows (Book files json records) said lacks = other_first (codes "check-terminal") (codes "book") (λ e. omega (arith, e)) said.0
check_terminal_has rows (Loop trace no_times book check json steps) said lacks = other_first (codes "check-terminal") (codes "loop") (λ e. omega (arith, e)) said.0
check_terminal_has rows (Till options) said lacks = other_first (codes "check-terminal") (codes "till") (λ e. omega (arith, e)) said.0
check_terminal_has rows (Terminal options) said lacks = other_first (codes "check-terminal") (codes "terminal") (λ e. omega (arith, e)) said.0
check_terminal_has rows (Tap options) said lacks = other_first (codes "check-terminal") (codes "tap") (λ e. omega (arith, e)) said.0
check_terminal_has rows (Play options) said lacks = other_first (codes "check-terminal") (codes "play") (λ e. omega (arith, e)) said.0
check_terminal_has rows (CheckTill options) said lacks = other_at 7 (codes "check-terminal") (codes "check-till") (λ e. omega (arith, e)) said.0
check_terminal_has rows (CheckTerminal options) said lacks = lacks options.port options.host said.1.gives_port said.1.host

serve_has : (rows : List Row) (choice : Choice) → IsCommandOf (codes "serve") rows choice
    → ((port timeout clients : ℕ) (host terminal book token_file : Bor Text) → GivesNumber (codes "port") rows 65535 port → GivesNumber (codes "timeout") rows 65535 timeout → GivesNumber (codes "clients") rows 65535 clients
    → first_of (codes "host") rows ≡ Some host.now → first_of (codes "terminal") rows ≡ Some terminal.now → first_of (codes "book") rows ≡ Some book.now → first_of (codes "token-file") rows ≡ Some token_file.now → ⊥) → ⊥
serve_has rows (Show options) said lacks = other_second (codes "serve") (codes "show") (λ e. omega (arith, e)) said.0
serve_has rows (Join options) said lacks = other_first (codes "serve") (codes "join") (λ e. omega (arith, e)) said.0
serve_has rows (Normalise options) said lacks = other_first (codes "serve") (codes "normalise") (λ e. omega (arith, e)) said.0
serve_has rows (Audit options) said lacks = other_first (codes "serve") (codes "audit") (λ e. omega (arith, e)) said.0
serve_has rows (Report options) said lacks = other_first (codes "serve") (codes "report") (λ e. omega (arith, e)) said.0
serve_has rows (Receipts options) said lacks = other_first (codes "serve") (codes "receipts") (λ e. omega (arith, e)) said.0
serve_has rows (Vectors options) said lacks = other_first (codes "serve") (codes "vectors") (λ e. omega (arith, e)) said.0
serve_has rows (Book files json records) said lacks = other_first (codes "serve") (codes "book") (λ e. omega (arith, e)) said.0
serve_has rows (Loop trace no_times book check json steps) said lacks = other_first (codes "serve") (codes "loop") (λ e. omega (arith, e)) said.0
serve_has rows (Till options) said lacks = other_first (codes "serve") (codes "till") (λ e. omega (arith, e)) said.0
serve_has rows (Terminal options) said lacks = other_first (codes "serve") (codes "terminal") (λ e. omega (arith, e)) said.0
serve_has rows (Tap options) said lacks = other_first (codes "serve") (codes "tap") (λ e. omega (arith, e)) said.0
serve_has rows (Play options) said lacks = other_first (codes "serve") (codes "play") (λ e. omega (arith, e)) said.0
serve_has rows (CheckTill options) said lacks = other_first (codes "serve") (codes "check-till") (λ e. omega (arith, e)) said.0
serve_has rows (CheckTerminal options) said lacks = other_first (codes "serve") (codes "check-terminal") (λ e. omega (arith, e)) said.0
serve_has rows (Serve options) said lacks =
    lacks options.port options.timeout options.clients options.host options.terminal options.book options.token_file said.1.port said.1.timeout said.1.clients said.1.host said.1.terminal said.1.book said.1.token_file

pub till_without_port : (rows : List Row) → IsNumberOf (codes "port") rows 65535 None → HasNoChoice (Some (codes "till", rows))
till_without_port rows lacks = λ choice said. till_has rows choice said (λ port timeout a b. lacks port a)

pub till_without_timeout : (rows : List Row) → IsNumberOf (codes "timeout") rows 65535 None → HasNoChoice (Some (codes "till", rows))
till_without_timeout rows lacks = λ choice said. till_has rows choice said (λ port timeout a b. lacks timeout b)

pub till_without_host : (rows : List Row) → first_of (codes "host") rows ≡ None → HasNoChoice (Some (codes "till", rows))
till_without_host rows lacks = λ choice said. till_has_host rows choice said lacks

pub terminal_without_port : (rows : List Row) → IsNumberOf (codes "port") rows 65535 None → HasNoChoice (Some (codes "terminal", rows))
terminal_without_port rows lacks = λ choice said. terminal_has rows choice said (λ port tid connections delay a b d e. lacks port a)

pub terminal_without_host : (rows : List Row) → first_of (codes "host") rows ≡ None → HasNoChoice (Some (codes "terminal", rows))
terminal_without_host rows lacks = λ choice said. terminal_has_host rows choice said lacks

pub terminal_without_tid : (rows : List Row) → IsNumberOf (codes "tid") rows 99999999 None → HasNoChoice (Some (codes "terminal", rows))
terminal_without_tid rows lacks = λ choice said. terminal_has rows choice said (λ port tid connections delay a b d e. lacks tid b)

pub terminal_without_connections : (rows : List Row) → IsNumberOf (codes "connections") rows 65535 None → HasNoChoice (Some (codes "terminal", rows))
terminal_without_connections rows lacks = λ choice said. terminal_has rows choice said (λ port tid connections delay a b d e. lacks connections d)

pub terminal_without_delay : (rows : List Row) → IsNumberOf (codes "delay") rows 65535 None → HasNoChoice (Some (codes "terminal", rows))
terminal_without_delay rows lacks = λ choice said. terminal_has rows choice said (λ port tid connections delay a b d e. lacks delay e)

pub tap_without_listen : (rows : List Row) → first_of (codes "listen") rows ≡ None → HasNoChoice (Some (codes "tap", rows))
tap_without_listen rows lacks = λ choice said. tap_has rows choice said (λ listen to connections a b d. let bad : Some listen.now ≡ None = sym a ∙ lacks in cc)

pub tap_without_to : (rows : List Row) → first_of (codes "to") rows ≡ None → HasNoChoice (Some (codes "tap", rows))
tap_without_to rows lacks = λ choice said. tap_has rows choice said (λ listen to connections a b d. let bad : Some to.now ≡ None = sym b ∙ lacks in cc)

pub tap_without_connections : (rows : List Row) → IsNumberOf (codes "connections") rows 65535 None → HasNoChoice (Some (codes "tap", rows))
tap_without_connections rows lacks = λ choice said. tap_has rows choice said (λ listen to connections a b d. lacks connections d)

pub play_without_host : (rows : List Row) → first_of (codes "host") rows ≡ None → HasNoChoice (Some (codes "play", rows))
play_without_host rows lacks = λ choice said. play_has_host rows choice said lacks

pub check_till_without_port : (rows : List Row) → IsNumberOf (codes "listen") rows 65535 None → HasNoChoice (Some (codes "check-till", rows))
check_till_without_port rows lacks = λ choice said. check_till_has rows choice said (λ port host a b. lacks port a)

pub check_till_without_host : (rows : List Row) → first_of (codes "host") rows ≡ None → HasNoChoice (Some (codes "check-till", rows))
check_till_without_host rows lacks = λ choice said. check_till_has rows choice said (λ port host a b. let bad : Some host.now ≡ None = sym b ∙ lacks in cc)

pub check_terminal_without_port : (rows : List Row) → IsNumberOf (codes "port") rows 65535 None → HasNoChoice (Some (codes "check-terminal", rows))
check_terminal_without_port rows lacks = λ choice said. check_terminal_has rows choice said (λ port host a b. lacks port a)

pub check_terminal_without_host : (rows : List Row) → first_of (codes "host") rows ≡ None → HasNoChoice (Some (codes "check-terminal", rows))
check_terminal_without_host rows lacks = λ choice said. check_terminal_has rows choice said (λ port host a b. let bad : Some host.now ≡ None = sym b ∙ lacks in cc)

pub serve_without_port : (rows : List Row) → IsNumberOf (codes "port") rows 65535 None → HasNoChoice (Some (codes "serve", rows))
serve_without_port rows lacks = λ choice said. serve_has rows choice said (λ port timeout clients host terminal book token_file a b d e f g h. lacks port a)

pub serve_without_timeout : (rows : List Row) → IsNumberOf (codes "timeout") rows 65535 None → HasNoChoice (Some (codes "serve", rows))
serve_without_timeout rows lacks = λ choice said. serve_has rows choice said (λ port timeout clients host terminal book token_file a b d e f g h. lacks timeout b)

pub serve_without_clients : (rows : List Row) → IsNumberOf (codes "clients") rows 65535 None → HasNoChoice (Some (codes "serve", rows))
serve_without_clients rows lacks = λ choice said. serve_has rows choice said (λ port timeout clients host terminal book token_file a b d e f g h. lacks clients d)

pub serve_without_host : (rows : List Row) → first_of (codes "host") rows ≡ None → HasNoChoice (Some (codes "serve", rows))
serve_without_host rows lacks = λ choice said. serve_has rows choice said (λ port timeout clients host terminal book token_file a b d e f g h. let bad : Some host.now ≡ None = sym e ∙ lacks in cc)

pub serve_without_terminal : (rows : List Row) → first_of (codes "terminal") rows ≡ None → HasNoChoice (Some (codes "serve", rows))
serve_without_terminal rows lacks = λ choice said. serve_has rows choice said (λ port timeout clients host terminal book token_file a b d e f g h. let bad : Some terminal.now ≡ None = sym f ∙ lacks in cc)

pub serve_without_book : (rows : List Row) → first_of (codes "book") rows ≡ None → HasNoChoice (Some (codes "serve", rows))
serve_without_book rows lacks = λ choice said. serve_has rows choice said (λ port timeout clients host terminal book token_file a b d e f g h. let bad : Some book.now ≡ None = sym g ∙ lacks in cc)

pub serve_without_token_file : (rows : List Row) → first_of (codes "token-file") rows ≡ None → HasNoChoice (Some (codes "serve", rows))
serve_without_token_file rows lacks = λ choice said. serve_has rows choice said (λ port timeout clients host terminal book token_file a b d e f g h. let bad : Some token_file.now ≡ None = sym h ∙ lacks in cc)

-- the name is none of a command
pub no_command : (name : Text) (rows : List Row) → (name ≢ codes "show") → (name ≢ codes "join") → (name ≢ codes "normalise") → (name ≢ codes "audit")
    → (name ≢ codes "report") → (name ≢ codes "receipts") → (name ≢ codes "vectors") → (name ≢ codes "book") → (name ≢ codes "loop") → (name ≢ codes "till") → (name ≢ codes "terminal")
    → (name ≢ codes "tap") → (name ≢ codes "serve") → (name ≢ codes "play")
    → (name ≢ codes "check-till") → (name ≢ codes "check-terminal") → HasNoChoice (Some (name, rows))
no_command name rows show join normalise audit report receipts vectors book loop till terminal tap serve play check_till check_terminal = no
  where
    no : HasNoChoice (Some (name, rows))
    no (Show options) said = show said.0
    no (Join options) said = join said.0
    no (Normalise options) said = normalise said.0
    no (Audit options) said = audit said.0
    no (Report options) said = report said.0
    no (Receipts options) said = receipts said.0
    no (Vectors options) said = vectors said.0
    no (Book files json records) said = book said.0
    no (Loop trace no_times book check json steps) said = loop said.0
    no (Till options) said = till said.0
    no (Terminal options) said = terminal said.0
    no (Tap options) said = tap said.0
    no (Serve options) said = serve said.0
    no (Play options) said = play said.0
    no (CheckTill options) said = check_till said.0
    no (CheckTerminal options) said = check_terminal said.0
