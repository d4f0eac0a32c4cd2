-- Refusals: "number, stream (0 problem, 1 first certificate, 2 second), place and key".
use Rattle.std.specs.Prelude.{ℕ}
use Rattle.calls.specs.declared.Refusal.{Refusal}

abbrev pub no_refusal : Refusal
no_refusal = record { number = 0; stream = 0; place = 0; key = 0 }

-- of the problem, stream 0. "The key is 0 except at 9"
abbrev pub problem_refusal : ℕ → ℕ → Refusal
problem_refusal number place = record { number = number; stream = 0; place = place; key = 0 }

-- of a certificate, stream 1 or 2
abbrev pub certificate_refusal : ℕ → ℕ → ℕ → ℕ → Refusal
certificate_refusal stream number place key = record { number = number; stream = stream; place = place; key = key }
