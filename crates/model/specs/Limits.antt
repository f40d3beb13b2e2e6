-- Document 01's widths, limits and fixed numbers, each by its name. Lengths, ranges and offsets of the layout stand in `Layout`, beside the sentences that
-- they are.
use Rattle.std.specs.Prelude.{ℕ}

-- ---- kinds of constants: "Kind 1 principal and 2 thing .. Kind 3 day .. Kind 4 quantity"
abbrev pub principal : ℕ
principal = 1

abbrev pub thing : ℕ
thing = 2

abbrev pub day : ℕ
day = 3

abbrev pub quantity : ℕ
quantity = 4

-- ---- "a depth byte (0, or 1 for unlimited)"
abbrev pub unlimited : ℕ
unlimited = 1

-- ---- verb 0, "can act as", is built in
abbrev pub can_act_as : ℕ
can_act_as = 0

-- ---- "Fact record, 16 bytes: .. three parameters"; "at most 65,535"; "An answer is 8 bytes .. 255 where not free"
abbrev pub record_bytes : ℕ
record_bytes = 16

abbrev pub max_arity : ℕ
max_arity = 3

abbrev pub max_records : ℕ
max_records = 65535

abbrev pub answer_bytes : ℕ
answer_bytes = 8

abbrev pub unbound : ℕ
unbound = 255

-- ==== Named for the code from here on: the numbers of `Layout`, with which the readers that use these names are proved to agree.

-- ---- "Constants (1 to 255 ..)", "Verbs (0 to 64 ..)", "Assertions (0 to 256)"
abbrev pub max_constants : ℕ
max_constants = 255

abbrev pub max_verbs : ℕ
max_verbs = 64

abbrev pub max_assertions : ℕ
max_assertions = 256

-- ---- request 02: "2-byte count (0 to 256)"
abbrev pub max_withdrawals : ℕ
max_withdrawals = 256

-- ---- request 05: "2-byte count of 0 to 1,024"; an entry has 6 bytes
abbrev pub max_links : ℕ
max_links = 1024

abbrev pub link_bytes : ℕ
link_bytes = 6

-- ---- "label of 1 to 32 bytes in 0x21 to 0x7E"
abbrev pub max_label : ℕ
max_label = 32

abbrev pub lowest_label_byte : ℕ
lowest_label_byte = 0x21

abbrev pub highest_label_byte : ℕ
highest_label_byte = 0x7E

-- ---- "days since 1 January 2000, 0 to 36,524"
abbrev pub max_day : ℕ
max_day = 36524

-- ---- "a nest byte 0 to 3", "a count byte 0 to 4" of body facts and of constraints; operators 1 to 5
abbrev pub max_nest : ℕ
max_nest = 3

abbrev pub max_body : ℕ
max_body = 4

abbrev pub max_constraints : ℕ
max_constraints = 4

abbrev pub max_operator : ℕ
max_operator = 5

-- ---- "count byte 1 to 8, nodes"; "8 is the deepest"; "variable byte 0 to 7"
abbrev pub max_parts : ℕ
max_parts = 8

abbrev pub max_depth : ℕ
max_depth = 8

abbrev pub max_variable : ℕ
max_variable = 7

-- ---- "0x8000 to 0x8007 a variable, 0x4000 today"
abbrev pub first_variable : ℕ
first_variable = 0x8000

abbrev pub today_code : ℕ
today_code = 0x4000

-- ---- "Byte 0: version, 1. Bytes 1 to 4: count of all bytes after them."; of a policy, with request 06, 1 and 2
abbrev pub version : ℕ
version = 1

abbrev pub policy_versions : ℕ
policy_versions = 2

abbrev pub length_at : ℕ
length_at = 1

abbrev pub header_bytes : ℕ
header_bytes = 5

-- ---- a request: "today (4 bytes ..), one node"
abbrev pub first_node_at : ℕ
first_node_at = 9
