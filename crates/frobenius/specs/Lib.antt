-- What the contracts on kernels, eigenvectors and matrices of powers cite.
pub mod Kernel
pub mod Image
