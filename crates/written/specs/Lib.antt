pub mod Bytes
pub mod ProblemWritten
pub mod CertificateWritten
pub mod Legal
pub mod CommandOrder
pub mod OneMore
