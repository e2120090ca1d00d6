-- Document 01, the job sheet: the lines of a listing. E: record, answer. R: request, answer, id. D: place, token, next, five slots.
use Rattle.std.specs.Prelude.{ℕ, List, [], ◌∷◌, ◌++◌}
use Rattle.descriptor.specs.declared.qtd.QueueTransferDescriptor.{QueueTransferDescriptor}
use Rattle.text.specs.Text.{decimal, hex}
use Rattle.job_sheet.specs.Sheets.{joined}

-- after a space: a number, and a word of eight hexadecimal digits
unfoldable pub number_field : ℕ → List ℕ
number_field n = 32 ∷ decimal n

unfoldable pub word_field : ℕ → List ℕ
word_field word = 32 ∷ hex word 8

-- E, R, D; each line ends in a newline
unfoldable pub endpoint_line : ℕ → ℕ → List ℕ
endpoint_line k answer = 69 ∷ (number_field k ++ (number_field answer ++ (10 ∷ [])))

unfoldable pub request_line : ℕ → ℕ → ℕ → List ℕ
request_line k answer id = 82 ∷ (number_field k ++ (number_field answer ++ (number_field id ++ (10 ∷ []))))

unfoldable pub descriptor_line : ℕ → QueueTransferDescriptor → List ℕ
descriptor_line place d = 68 ∷ (number_field place ++ (word_field d.token ++ (word_field d.next ++ (joined word_field d.pages ++ (10 ∷ [])))))

-- "prints `bad sheet` alone"
unfoldable pub bad_line : List ℕ
bad_line = 98 ∷ 97 ∷ 100 ∷ 32 ∷ 115 ∷ 104 ∷ 101 ∷ 101 ∷ 116 ∷ 10 ∷ []
