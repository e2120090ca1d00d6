-- EHCI 1.0, section 3.5: the pointers of a queue transfer descriptor. Imports nothing of the project.
use Rattle.std.specs.Prelude.{ℕ, ◌+◌, ◌*◌, ◌/◌, ◌%◌, ◌^◌, List, get_or}

abbrev pub field : ℕ → ℕ → ℕ → ℕ
field w lo n = w / 2 ^ lo % 2 ^ n

-- 3.5.1, 3.5.2: a next or alternate pointer: T, and the address of the descriptor that it leads to
abbrev pub terminate : ℕ → ℕ
terminate w = field w 0 1

abbrev pub qtd_address : ℕ → ℕ
qtd_address w = field w 5 27 * 2 ^ 5

-- 3.5.4: a page slot: the page that it leads to; in slot 0 also the offset at which the buffer starts
abbrev pub page : ℕ → ℕ
page w = field w 12 20 * 2 ^ 12

abbrev pub offset : ℕ → ℕ
offset w = field w 0 12

-- byte j of the buffer of a descriptor with these page slots and upper slots (appendix B): pages are 4096 bytes,
-- and the offset runs on from slot to slot
abbrev pub byte_address : List ℕ → List ℕ → ℕ → ℕ
byte_address pages upper j =
    let o : ℕ = offset (get_or pages 0 0) + j in
    get_or upper (o / 4096) 0 * 2 ^ 32 + page (get_or pages (o / 4096) 0) + o % 4096
