-- Computed: the readers of the added slices by offsets, entry by entry, as the code goes (`proofs/EntryReader`: they are those of `Layout` for every byte
-- list).
use Rattle.std.specs.Prelude.{ℕ, ◌+◌, ◌*◌, List, Bool, false, length, eqb, ltb}
use Rattle.model.specs.Limits.{max_withdrawals, max_links, link_bytes, max_constraints, version, header_bytes}
use Rattle.model.specs.Syntax.{Withdrawal, Link, Constant, Verb, vars_withdrawal}
use Rattle.model.specs.Kinds.{withdrawal_demands, fitting, fits_link}
use Rattle.model.specs.Bytes.{byte_at, u16_at, u32_at, choose, Reading, got, refused, and_then}
use Rattle.model.specs.Readings.{expr_at, constraints_at}
use Rattle.model.specs.Forms.{operators_form}
use Rattle.model.specs.Policies.{contents, headed, list_at, ended}
unfoldable pub use Rattle.model.specs.Layout.{read_withdrawals, read_hierarchy}

-- ---- withdrawals: "entries of issuer, 4-byte serial, count byte and constraints"

-- where the entry at `at` ends
unfoldable pub withdrawal_end : List ℕ → ℕ → ℕ
withdrawal_end s at = at + 7 + 5 * byte_at s (at + 6)

unfoldable pub withdrawal_at : List ℕ → ℕ → Withdrawal
withdrawal_at s at = record { issuer = expr_at s at; serial = u32_at s (at + 2); tests = constraints_at (byte_at s (at + 6)) s (at + 7) }

unfoldable pub withdrawal_form : List ℕ → ℕ → Bool
withdrawal_form s at =
    choose (ltb (length s) (at + 7)) false
    (choose (ltb max_constraints (byte_at s (at + 6))) false
    (choose (ltb (length s) (withdrawal_end s at)) false
    (operators_form (byte_at s (at + 6)) s (at + 7))))

-- "within an item 3, .. 5", and then 10
unfoldable pub withdrawal_item : List Constant → List ℕ → List Withdrawal → ℕ → Reading Withdrawal
withdrawal_item cs s earlier at =
    let w = withdrawal_at s at in
    choose (withdrawal_form s at)
    (choose (fitting cs (withdrawal_demands w))
    (choose (eqb (length (vars_withdrawal w)) 0) (got w (withdrawal_end s at)) (refused 10 at))
    (refused 5 at))
    (refused 3 at)

unfoldable pub computed_withdrawals : List Constant → List ℕ → Reading (List Withdrawal)
computed_withdrawals cs s =
    headed version s (and_then (list_at s 0 max_withdrawals (withdrawal_item cs s) header_bytes) (λ ws e. ended s (contents ws) e))

-- ---- the hierarchy: "verb, parameter position from 1, parent and child"

unfoldable pub link_at : List ℕ → ℕ → Link
link_at s at = record { verb = byte_at s at; position = byte_at s (at + 1); parent = u16_at s (at + 2); child = u16_at s (at + 4) }

-- "after 5 in its entry" 11
unfoldable pub link_judged : List Constant → List Verb → Link → ℕ → ℕ → Reading Link
link_judged cs vs l at e = choose (fits_link cs vs l) (choose (eqb l.parent l.child) (refused 11 at) (got l e)) (refused 5 at)

-- "A verb number past the verbs ends the reading of its item: it gives 5"
unfoldable pub link_item : List Constant → List Verb → List ℕ → List Link → ℕ → Reading Link
link_item cs vs s earlier at =
    choose (ltb (length s) (at + 1)) (refused 3 at)
    (choose (ltb (length vs) (byte_at s at)) (refused 5 at)
    (choose (ltb (length s) (at + link_bytes)) (refused 3 at)
    (link_judged cs vs (link_at s at) at (at + link_bytes))))

unfoldable pub computed_hierarchy : List Constant → List Verb → List ℕ → Reading (List Link)
computed_hierarchy cs vs s =
    headed version s (and_then (list_at s 0 max_links (link_item cs vs s) header_bytes) (λ ls e. ended s (contents ls) e))
